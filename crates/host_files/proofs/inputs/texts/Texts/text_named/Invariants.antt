use Rattle.std.proofs.Common.{◌≡◌, map, drop}
use Rattle.host_files.specs.inputs.Words.{text_named}
use Rattle.host_files.proofs.inputs.texts.Texts.text_named.Given as goal

-- none of the files before this one has the name
abbrev pub invariant-loop-file : goal.invariant-loop-file
invariant-loop-file l =
    text_named l.name (map (λ f. (f.0.now, f.1.now)) (drop l.file-index l.file-items))
    ≡ text_named l.name (map (λ f. (f.0.now, f.1.now)) l.file-items)
