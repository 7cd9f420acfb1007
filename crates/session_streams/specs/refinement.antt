-- What the code's reader of streams and its answers are, in the words of streams.
use Rattle.std.specs.Prelude.{List, [], ◌∷◌, ◌++◌, map, Option, Some, None}
use Rattle.session_language.specs.declared.fault.SessionRefusal.{SessionRefusal}
use Rattle.session_language.specs.refinement.ReaderRefinement.{reading_of}
use Rattle.session_streams.specs.declared.stream.Heard.{Heard}
use Rattle.session_streams.specs.declared.stream.SessionReader.{SessionReader}
use Rattle.session_streams.specs.Streams.{Told, Came, Faulty, Listening}

-- where a reader of streams stands
abbrev pub listening_of : SessionReader → Listening
listening_of s = record { reading = reading_of s.reader; passing = s.passing }

-- the fault, if there is one
abbrev pub faults_of : Option SessionRefusal → List Told
faults_of None = []
faults_of (Some f) = Faulty f ∷ []

-- what an answer tells, in its order
abbrev pub told_of : Heard → List Told
told_of h = faults_of h.cut ++ (map Came h.closed.items ++ faults_of h.fault)
