-- The line of a text's first fault.
use Rattle.std.proofs.Common.{◌≡◌, ℕ, ◌+◌, ◌<◌, List, [], ◌∷◌, ◌++◌, length, map, arith}
use Rattle.std.specs.Prelude.{◌==◌, Option, None, Some, Ok, Err}
use Rattle.std.proofs.lemmas.List.Splits.{length-slice_split}
use Rattle.instance.specs.declared.fault.PlaceFault.{PlaceFault}
use Rattle.instance.specs.declared.fault.ReadFault.{ReadFault}
use Rattle.instance.specs.Reading.{HasLine}
use Rattle.instance.proofs.FaultLines.{has_line}
use Rattle.mopb_reader.specs.Tokens.{tokens_in_line, lines_of, numbered_tokens}
use Rattle.mopb_reader.specs.declared.token.Token.{Token}
use Rattle.mopb_reader.specs.FirstFault.{Progress, Progressed, step, end_fault, end_in, fault_or, fault_from, nothing_yet, first_fault}

-- the lines of these tokens are counted from 1
abbrev HaveLines : List (ℕ × Token) → Type 0
HaveLines [] = Unit {0}
HaveLines (t ∷ tokens) = (0 < t.0) × HaveLines tokens

tokens_counted : (last : ℕ) (p : Progress) (tokens : List (ℕ × Token)) (f : ReadFault) → 0 < last → HaveLines tokens → fault_from last p tokens ≡ Some f → HasLine f
tokens_counted last p [] f some lines e = by (end_fault p.place) e
  where
    by : (found : Option PlaceFault) → end_in last found ≡ Some f → HasLine f
    by None h = absurd (nothing h)
      where
        nothing : None ≡ Some f → ⊥
        nothing same = cc
    by (Some place) h = has_line last place f some h
tokens_counted last p (t ∷ tokens) f some lines e = by (step p t.1) (λ q. tokens_counted last q tokens f some lines.1) e
  where
    by : (found : Progressed) → ((q : Progress) → fault_from last q tokens ≡ Some f → HasLine f) → fault_or found t.0 (λ q. fault_from last q tokens) ≡ Some f → HasLine f
    by (Ok q) further h = further q h
    by (Err place) further h = has_line t.0 place f lines.0 h

in_one_line : (n : ℕ) (tokens : List Token) (more : List (ℕ × Token)) → 0 < n → HaveLines more → HaveLines (map (λ t. (n, t)) tokens ++ more)
in_one_line n [] more some lines = lines
in_one_line n (t ∷ tokens) more some lines = (some, in_one_line n tokens more some lines)

are_numbered : (n : ℕ) (lines : List (List ℕ)) → 0 < n → HaveLines (numbered_tokens n lines)
are_numbered n [] some = tt
are_numbered n (line ∷ lines) some = in_one_line n (tokens_in_line line) (numbered_tokens (n + 1) lines) some (are_numbered (n + 1) lines (omega arith))

-- the line of a text's fault is counted from 1
pub fault_has_line : (text : List ℕ) (f : ReadFault) → first_fault text ≡ Some f → HasLine f
fault_has_line text f e = tokens_counted (length (lines_of text)) nothing_yet (numbered_tokens 1 (lines_of text)) f (omega (arith, length-slice_split (λ (b : ℕ). b == 10) text)) (are_numbered 1 (lines_of text) (omega arith)) e
