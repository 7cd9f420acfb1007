mod inputs_lemmas
