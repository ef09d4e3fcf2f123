-- What a token that was taken does at a place.
use Rattle.std.proofs.Common.{◌≡◌, ◌≢◌, ℕ, Bool, true, Option, Some, None, Ok, Err, refl, sym, ap, ◌∙◌}
use Rattle.instance.specs.declared.fault.PlaceFault.TheVariants.{Bad}
use Rattle.instance.specs.Reading.{at_line}
use Rattle.instance.specs.declared.objective.Sense.{Sense}
use Rattle.mopb_reader.specs.FirstFault.{Place, Start, missing_at, Next, after, Progress, moved, step, fault_or, end_in, end_fault, fault_from}
use Rattle.mopb_reader.specs.Streams.{Stream, IsTaken}
use Rattle.mopb_reader.specs.Steps.{placed, after_taken, fault_at, fault_after, fault_inside}
use Rattle.mopb_reader.specs.declared.token.Token.{Token}
use Rattle.mopb_reader.specs.declared.token.Token.TheVariants.{Head}

-- a place inside a statement
abbrev pub Inside : Place → Type 0
Inside Start = ⊥
Inside place = Unit {0}

moved_placed : (p : Progress) (place : Place) (rows : Bool) (next : Next) → moved (placed p place) rows next ≡ moved p rows next
moved_placed p place rows (Ok q) = refl
moved_placed p place rows (Err fault) = refl

pub step_inside : (p : Progress) (place : Place) (token : Token) → Inside place → step (placed p place) token ≡ moved p p.rows (after place token)
step_inside p Start token inside = absurd inside
step_inside p place token inside = moved_placed p place p.rows (after place token)

ended_inside : (line : ℕ) (place : Place) → Inside place → end_in line (end_fault place) ≡ Some (at_line line (Bad (missing_at place)))
ended_inside line Start inside = absurd inside
ended_inside line place inside = refl

-- the first fault from a place on is one after the token that is taken there
pub took : (token : Option Token) (new old : Stream) (p : Progress) (place : Place) → Inside place → IsTaken token new old
    → new.last ≡ old.last → fault_at old p place ≡ fault_inside new p (after_taken place token)
took None new old p place inside taken last =
    ap (fault_from old.last (placed p place)) taken.0
    ∙ ended_inside old.last place inside
    ∙ ap (λ (n : ℕ). Some (at_line n (Bad (missing_at place)))) (sym taken.2)
took (Some token) new old p place inside taken last =
    ap (fault_from old.last (placed p place)) taken
    ∙ ap (λ next. fault_or next new.line (λ q. fault_from old.last q new.left)) (step_inside p place token inside)
    ∙ ap (λ (n : ℕ). fault_or (moved p p.rows (after place token)) new.line (λ q. fault_from n q new.left)) (sym last)

-- the same where a statement begins
pub took_first : (token : Token) (new old : Stream) (p : Progress) → IsTaken (Some token) new old → new.last ≡ old.last
    → fault_from old.last p old.left ≡ fault_after new (step p token)
took_first token new old p taken last =
    ap (fault_from old.last p) taken
    ∙ ap (λ (n : ℕ). fault_or (step p token) new.line (λ q. fault_from n q new.left)) (sym last)

-- a token that begins no objective
pub step_other : (p : Progress) (token : Token) → ((sense : Sense) → token ≢ Head sense) → step (placed p Start) token ≡ moved p true (after Start token)
step_other p (Head sense) other = absurd (other sense refl)
step_other p token other = moved_placed p Start true (after Start token)
