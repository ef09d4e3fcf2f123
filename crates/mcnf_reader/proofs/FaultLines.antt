-- The line of a text's first fault.
use Rattle.std.proofs.Common.{◌≡◌, ℕ, ◌+◌, List, [], ◌∷◌, ◌++◌, length, map, arith}
use Rattle.std.specs.Prelude.{Option, None, Some}
use Rattle.std.specs.Option.{option_or, option_map}
use Rattle.instance.specs.declared.fault.PlaceFault.{PlaceFault}
use Rattle.instance.specs.declared.fault.ReadFault.{ReadFault}
use Rattle.instance.specs.Reading.{at_line, HasLine}
use Rattle.instance.proofs.FaultLines.{has_line}
use Rattle.mcnf_reader.specs.Words.{lines_of, words_of}
use Rattle.mcnf_reader.specs.FirstFault.{line_fault, fault_after, first_fault}

lines_counted : (before lines : List (List (List ℕ))) (f : ReadFault) → fault_after before lines ≡ Some f → HasLine f
lines_counted before [] f e = absurd (nothing e)
  where
    nothing : None ≡ Some f → ⊥
    nothing h = cc
lines_counted before (first ∷ lines) f e = by (line_fault before first) (lines_counted (before ++ first ∷ []) lines f) e
  where
    by : (found : Option PlaceFault) → (fault_after (before ++ first ∷ []) lines ≡ Some f → HasLine f) → option_or (option_map (at_line (length before + 1)) found) (fault_after (before ++ first ∷ []) lines) ≡ Some f → HasLine f
    by None further h = further h
    by (Some place) further h = has_line (length before + 1) place f (omega arith) h

-- the line of a text's fault is counted from 1
pub fault_has_line : (text : List ℕ) (f : ReadFault) → first_fault text ≡ Some f → HasLine f
fault_has_line text f e = lines_counted [] (map words_of (lines_of text)) f e
