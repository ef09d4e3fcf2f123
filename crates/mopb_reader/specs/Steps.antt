-- What is read from left to right: what it spells, and how its faults stand to the table of places.
use Rattle.std.specs.Prelude.{◌≡◌, ℕ, true, false, ◌+◌, ◌<◌, ◌≤◌, ◌^◌, Bool, List, [], ◌∷◌, Option, Some, None, Result, Ok, Err, ℤ, unsigned_abs}
use Rattle.scut_base.specs.Number.{signed_value}
use Rattle.instance.specs.Shape.{terms_magnitude, objective_magnitude, row_magnitude}
use Rattle.instance.specs.declared.fault.BadKind.{BadKind}
use Rattle.instance.specs.declared.fault.InstanceLimit.{InstanceLimit}
use Rattle.instance.specs.declared.fault.PlaceFault.{PlaceFault}
use Rattle.instance.specs.declared.fault.PlaceFault.TheVariants.{Bad}
use Rattle.instance.specs.declared.fault.ReadFault.{ReadFault}
use Rattle.instance.specs.Reading.{at_line, IsFaultOf}
use Rattle.instance.specs.declared.row.Rel.{Rel}
use Rattle.instance.specs.declared.row.Linear.{Linear}
use Rattle.instance.specs.declared.objective.Objective.{Objective as Goal}
use Rattle.instance.specs.declared.objective.Sense.{Sense}
use Rattle.mopb_reader.specs.Tokens.{plain}
use Rattle.mopb_reader.specs.Grammar.{Term, FurtherTerms, TermsThen, BoundThen, RowThen, EndThen, objective_of, largest_of}
use Rattle.mopb_reader.specs.FirstFault.{Kind, Objective, Constraint, limit_of, Place, Start, Head, Sign, Coefficient, Term as AfterTerm, Relation, BoundSign, Bound, missing_at, Next, counted, begun, after, Progress, Progressed, moved, fault_or, fault_from}
use Rattle.mopb_reader.specs.Streams.{Stream, ahead, begins_term, IsSoundTaken}
use Rattle.mopb_reader.specs.declared.token.Token.{Token}
use Rattle.mopb_reader.specs.declared.token.Token.TheVariants.{Sign as SignToken, Number, Relation as RelationToken}
use Rattle.mopb_reader.specs.declared.terms.Terms.{Terms}

-- the place after the token that was taken, where the text may have ended
abbrev pub after_taken : Place → Option Token → Next
after_taken place None = Err (Bad (missing_at place))
after_taken place (Some token) = after place token

-- the same where a term may begin
abbrev pub begun_taken : Kind → ℕ → BadKind → Option Token → Next
begun_taken kind sum missing None = Err (Bad missing)
begun_taken kind sum missing (Some token) = begun kind sum missing token

-- the same progress at another place
abbrev pub placed : Progress → Place → Progress
placed p place = record { objectives = p.objectives; rows = p.rows; place = place }

-- the first fault from a place on
abbrev pub fault_at : Stream → Progress → Place → Option ReadFault
fault_at tokens p place = fault_from tokens.last (placed p place) tokens.left

-- the first fault from the token taken last on
abbrev pub fault_after : Stream → Progressed → Option ReadFault
fault_after tokens progressed =
    fault_or progressed tokens.line (λ q. fault_from tokens.last q tokens.left)

-- the same inside a statement
abbrev pub fault_inside : Stream → Progress → Next → Option ReadFault
fault_inside tokens p next = fault_after tokens (moved p p.rows next)

-- Where something was read, the first fault is the first one further on; where it was refused, it
-- is that with its line.
abbrev pub Finds : {T : Type 0} → Option ReadFault → Result T PlaceFault → Stream
    → (T → Option ReadFault) → Type 0
Finds first (Ok x) tokens further = first ≡ further x
Finds first (Err fault) tokens further = IsFaultOf first (at_line tokens.line fault)

-- The same for a whole statement, whose fault has its line.
abbrev pub Meets : {T : Type 0} → Option ReadFault → Result T ReadFault → Option ReadFault → Type 0
Meets first (Ok x) further = first ≡ further
Meets first (Err fault) further = IsFaultOf first fault

-- What the token taken last does at its place is what was answered.
abbrev pub Judges : {T : Type 0} → Next → Result T PlaceFault → (T → Place) → Type 0
Judges next (Ok x) place = next ≡ Ok (place x)
Judges next (Err fault) place = next ≡ Err fault

-- the room that the sum leaves below the limit
abbrev pub IsRoom : ℕ → ℕ → Type 0
IsRoom room sum = room + sum + 1 ≡ 2 ^ 63

-- What is answered of a literal, a magnitude, a relation and a bound, where they stand.
abbrev pub JudgesLiteral : {T : Type 0} → Option Token → Result T PlaceFault → Type 0
JudgesLiteral token result = (kind : Kind) (sum : ℕ)
    → Judges (after_taken (Coefficient kind sum) token) result (λ _. AfterTerm kind sum)

abbrev pub JudgesMagnitude : Option ℕ → ℕ → InstanceLimit → Result ℕ PlaceFault → Type 0
JudgesMagnitude value room limit result = (sum : ℕ) (place : ℕ → Place) → IsRoom room sum
    → Judges (counted limit sum value place) result (λ n. place (sum + n))

abbrev pub JudgesRelation : {T : Type 0} → Option Token → Result T PlaceFault → Type 0
JudgesRelation token result = (sum : ℕ) → begins_term token ≡ false
    → Judges (after_taken (AfterTerm Constraint sum) token) result (λ _. Relation sum)

abbrev pub JudgesBound : {T : Type 0} → Option Token → ℕ → Result T PlaceFault → Type 0
JudgesBound token room result = (sum : ℕ) → IsRoom room sum
    → Judges (after_taken (BoundSign sum) token) result (λ _. Bound)

-- the term's magnitude is at most what there is room for, and its variable is within the limit
abbrev pub IsTermWithin : ℕ → Term → Type 0
IsTermWithin room term = (unsigned_abs term.0 ≤ room) × (term.1.var ≤ 2 ^ 24)

-- these are the tokens that are left
abbrev pub IsLeft : Stream → List Token → Type 0
IsLeft s tokens = tokens ≡ plain s.left

-- the tokens begin with a term
abbrev pub BeginsWithTerm : Option Token → Stream → Stream → Term → Type 0
BeginsWithTerm first old new term = TermsThen (IsLeft new) (ahead first old) (term ∷ [])

-- with the sign before them they begin with a term
abbrev pub BeginsUnsigned : Bool → Option Token → Stream → Stream → Term → Type 0
BeginsUnsigned minus first old new term =
    FurtherTerms (IsLeft new) (SignToken minus ∷ ahead first old) (term ∷ [])

-- the first fault from the token taken last on is found, up to the end of a term
abbrev pub TermFound : Progress → Kind → ℕ → Next → Stream → Stream → Result Term PlaceFault
    → Type 0
TermFound p kind sum next old new result = Finds (fault_inside old p next) result new
    (λ term. fault_at new p (AfterTerm kind (sum + unsigned_abs term.0)))

-- the first fault from a term on is found
abbrev pub FindsTerm : InstanceLimit → ℕ → Option Token → Stream → Stream
    → Result Term PlaceFault → Type 0
FindsTerm limit room first old new result =
    (kind : Kind) (sum : ℕ) (missing : BadKind) (p : Progress) → limit ≡ limit_of kind
    → IsRoom room sum → begins_term first ≡ true
    → TermFound p kind sum (begun_taken kind sum missing first) old new result

-- the same after its sign
abbrev pub FindsUnsigned : InstanceLimit → ℕ → Option Token → Stream → Stream
    → Result Term PlaceFault → Type 0
FindsUnsigned limit room first old new result = (kind : Kind) (sum : ℕ) (p : Progress)
    → limit ≡ limit_of kind → IsRoom room sum
    → TermFound p kind sum (after_taken (Sign kind sum) first) old new result

-- the place where the next term may begin
abbrev pub place_of : Kind → List Term → Place
place_of Objective [] = Head
place_of Constraint [] = Start
place_of kind (term ∷ terms) = AfterTerm kind (terms_magnitude (term ∷ terms))

-- these are the tokens that are left, with the one that was taken
abbrev pub IsAhead : Option Token → Stream → List Token → Type 0
IsAhead next s tokens = tokens ≡ ahead next s

-- the tokens begin with these terms
abbrev pub BeginsWithTerms : Option Token → Stream → Stream → Terms → Type 0
BeginsWithTerms first old new t = TermsThen (IsAhead t.next new) (ahead first old) t.items

-- the sum and the largest variable of the terms, within the limits
pub record AreSummed (t : Terms) : Type 0 where
  pub sound : IsSoundTaken t.next
  pub ended : begins_term t.next ≡ false
  pub sum : t.sum ≡ terms_magnitude t.items
  pub small : t.sum < 2 ^ 63
  pub largest : t.largest ≡ largest_of t.items
  pub within : t.largest ≤ 2 ^ 24

-- the first fault from the token after these terms on
abbrev pub terms_fault : Progress → Kind → Option Token → Stream → List Term → Option ReadFault
terms_fault p kind next tokens items =
    fault_inside tokens p (after_taken (place_of kind items) next)

-- the first fault from terms on is found
abbrev pub FindsTerms : InstanceLimit → Option Token → Stream → Stream
    → Result Terms PlaceFault → Type 0
FindsTerms limit first old new result = (kind : Kind) (p : Progress) → limit ≡ limit_of kind
    → Finds (terms_fault p kind first old []) result new
    (λ t. terms_fault p kind t.next new t.items)

-- an objective and its largest variable, within the limits
pub record IsReadObjective (sense : Sense) (old new : Stream) (o : Goal) (vars : ℕ) : Type 0 where
  pub shape : o ≡ objective_of sense o.terms
  pub read : TermsThen (EndThen (IsLeft new)) (plain old.left) o.terms
  pub magnitude : objective_magnitude o < 2 ^ 63
  pub largest : vars ≡ largest_of o.terms
  pub within : vars ≤ 2 ^ 24

-- a row and its largest variable, within the limits
pub record IsReadRow (first : Token) (old new : Stream) (row : Linear) (vars : ℕ) : Type 0 where
  pub read : RowThen (EndThen (IsLeft new)) (first ∷ plain old.left) row
  pub magnitude : row_magnitude row < 2 ^ 63
  pub largest : vars ≡ largest_of row.terms
  pub within : vars ≤ 2 ^ 24

-- the first fault from a place inside a statement on is found
abbrev pub FindsFrom : {T : Type 0} → Progress → Place → Place → Stream → Stream
    → Result T PlaceFault → Type 0
FindsFrom p place further old new result =
    Finds (fault_at old p place) result new (λ _. fault_at new p further)

-- the first fault from a row's first token on is found
abbrev pub FindsRow : Token → Stream → Stream → {T : Type 0} → Result T PlaceFault → Type 0
FindsRow first old new result = (p : Progress)
    → Finds (fault_inside old p (after Start first)) result new (λ _. fault_at new p Start)

-- the first fault from a relation on is found
abbrev pub FindsBound : {T : Type 0} → ℕ → Stream → Stream → Result T PlaceFault → Type 0
FindsBound room old new result =
    (sum : ℕ) (p : Progress) → IsRoom room sum → FindsFrom p (Relation sum) Bound old new result

-- the token is digits of the bound's magnitude
abbrev pub IsBoundOf : Bool → Option Token → ℤ → Type 0
IsBoundOf minus token bound =
    (n : ℕ) × (token ≡ Some (Number (Some n))) × (bound ≡ signed_value minus n)

-- the tokens begin with a bound, whatever relation stands before it
abbrev pub BeginsWithBound : Stream → Stream → ℤ → Type 0
BeginsWithBound old new bound =
    (rel : Rel) → BoundThen rel bound (IsLeft new) (RelationToken rel ∷ plain old.left)
