-- The first fault of a text: the first token, or end, that isn't allowed at its place or reaches a
-- limit.
use Rattle.std.specs.Prelude.{ℕ, Bool, true, false, ◌+◌, nat_lt, nat_le, if◌then◌else◌, List, [], ◌∷◌, length, Option, Some, None, Result, Ok, Err}
use Rattle.instance.specs.declared.fault.BadKind.{BadKind}
use Rattle.instance.specs.declared.fault.BadKind.TheVariants.{UnknownLine, NumberTooWide, TermExpected, RelationExpected, BoundExpected, SemicolonMissing, Product, ObjectiveAfterConstraint}
use Rattle.instance.specs.declared.fault.InstanceLimit.{InstanceLimit}
use Rattle.instance.specs.declared.fault.InstanceLimit.TheVariants.{Vars, Weights, Row, Objectives}
use Rattle.instance.specs.declared.fault.PlaceFault.{PlaceFault}
use Rattle.instance.specs.declared.fault.PlaceFault.TheVariants.{Bad, Limit}
use Rattle.instance.specs.declared.fault.ReadFault.{ReadFault}
use Rattle.instance.specs.Shape.{max_vars, max_objectives, magnitude_limit}
use Rattle.instance.specs.Reading.{at_line}
use Rattle.mopb_reader.specs.Tokens.{lines_of, numbered_tokens}
use Rattle.mopb_reader.specs.declared.token.Token.{Token}
use Rattle.mopb_reader.specs.declared.token.Token.TheVariants.{Sign as SignToken, Number, Literal, Misspelled, Head as HeadToken, Relation as RelationToken, Semicolon}

-- the kind of statement that a term stands in
pub data Kind : Type 0 where
  Objective : Kind
  Constraint : Kind

-- the limit on a statement's magnitudes
abbrev pub limit_of : Kind → InstanceLimit
limit_of Objective = Weights
limit_of Constraint = Row

-- What stands before a token. The numbers are the magnitudes of the statement so far, summed.
pub data Place : Type 0 where
  -- a whole statement, or nothing
  Start : Place
  -- `min:` or `max:`
  Head : Place
  -- a term's sign
  Sign : Kind → ℕ → Place
  -- a term's digits
  Coefficient : Kind → ℕ → Place
  -- a term
  Term : Kind → ℕ → Place
  Relation : ℕ → Place
  -- a bound's sign
  BoundSign : ℕ → Place
  Bound : Place

-- what a token is that isn't allowed at a place, but for those that have a name of their own
abbrev pub missing_at : Place → BadKind
missing_at Start = UnknownLine
missing_at Head = SemicolonMissing
missing_at (Sign kind sum) = TermExpected
missing_at (Coefficient kind sum) = TermExpected
missing_at (Term Objective sum) = SemicolonMissing
missing_at (Term Constraint sum) = RelationExpected
missing_at (Relation sum) = BoundExpected
missing_at (BoundSign sum) = BoundExpected
missing_at Bound = SemicolonMissing

abbrev pub Next : Type 0
Next = Result Place PlaceFault

-- the place after a number that counts in the statement, where it fits and is within the limit
abbrev pub counted : InstanceLimit → ℕ → Option ℕ → (ℕ → Place) → Next
counted limit sum None after = Err (Bad NumberTooWide)
counted limit sum (Some value) after =
    if nat_lt (sum + value) magnitude_limit then Ok (after (sum + value)) else Err (Limit limit)

-- the place after a literal of this variable, where it fits and is within the limit
abbrev pub indexed : Option ℕ → Next → Next
indexed None after = Err (Bad NumberTooWide)
indexed (Some var) after = if nat_le var max_vars then after else Err (Limit Vars)

-- the place after a literal that has no coefficient: that is 1
abbrev pub after_bare : Kind → ℕ → Option ℕ → Next
after_bare kind sum var = indexed var (counted (limit_of kind) sum (Some 1) (Term kind))

-- where a term may begin; other tokens are what is said
abbrev pub begun : Kind → ℕ → BadKind → Token → Next
begun kind sum missing (SignToken minus) = Ok (Sign kind sum)
begun kind sum missing (Number value) = counted (limit_of kind) sum value (Coefficient kind)
begun kind sum missing (Literal var neg) = after_bare kind sum var
begun kind sum missing Misspelled = Err (Bad TermExpected)
begun kind sum missing token = Err (Bad missing)

-- the place after a token, or what is wrong with it; a head where a statement begins is left out
abbrev pub after : Place → Token → Next
after Start (RelationToken rel) = Ok (Relation 0)
after Start token = begun Constraint 0 UnknownLine token
after Head Semicolon = Ok Start
after Head token = begun Objective 0 SemicolonMissing token
after (Sign kind sum) (Number value) = counted (limit_of kind) sum value (Coefficient kind)
after (Sign kind sum) (Literal var neg) = after_bare kind sum var
after (Sign kind sum) token = Err (Bad TermExpected)
after (Coefficient kind sum) (Literal var neg) = indexed var (Ok (Term kind sum))
after (Coefficient kind sum) token = Err (Bad TermExpected)
after (Term kind sum) (Literal var neg) = Err (Bad Product)
after (Term kind sum) Misspelled = Err (Bad Product)
after (Term Objective sum) Semicolon = Ok Start
after (Term Constraint sum) (RelationToken rel) = Ok (Relation sum)
after (Term kind sum) token = begun kind sum (missing_at (Term kind sum)) token
after (Relation sum) (SignToken minus) = Ok (BoundSign sum)
after (Relation sum) (Number value) = counted Row sum value (λ _. Bound)
after (Relation sum) token = Err (Bad BoundExpected)
after (BoundSign sum) (Number value) = counted Row sum value (λ _. Bound)
after (BoundSign sum) token = Err (Bad BoundExpected)
after Bound Semicolon = Ok Start
after Bound token = Err (Bad SemicolonMissing)

-- a place, with how many objectives and whether any constraint have begun before it
pub record Progress : Type 0 where
  pub objectives : ℕ
  pub rows : Bool
  pub place : Place

abbrev pub Progressed : Type 0
Progressed = Result Progress PlaceFault

-- an objective begins
abbrev pub head_begun : Progress → Progressed
head_begun p =
    if p.rows then Err (Bad ObjectiveAfterConstraint)
    else if nat_lt p.objectives max_objectives
    then Ok (record { objectives = p.objectives + 1; rows = false; place = Head })
    else Err (Limit Objectives)

-- the same progress at another place
abbrev pub moved : Progress → Bool → Next → Progressed
moved p rows (Ok place) = Ok (record { objectives = p.objectives; rows = rows; place = place })
moved p rows (Err fault) = Err fault

abbrev pub step_at : Place → Progress → Token → Progressed
step_at Start p (HeadToken sense) = head_begun p
step_at Start p token = moved p true (after Start token)
step_at place p token = moved p p.rows (after place token)

-- the progress with a token more
abbrev pub step : Progress → Token → Progressed
step p token = step_at p.place p token

-- the end is allowed only where a statement begins
abbrev pub end_fault : Place → Option PlaceFault
end_fault Start = None
end_fault place = Some (Bad (missing_at place))

abbrev pub fault_or : Progressed → ℕ → (Progress → Option ReadFault) → Option ReadFault
fault_or (Ok p) line further = further p
fault_or (Err fault) line further = Some (at_line line fault)

abbrev pub end_in : ℕ → Option PlaceFault → Option ReadFault
end_in line None = None
end_in line (Some fault) = Some (at_line line fault)

-- the first fault of tokens with their lines, in a text that ends in the last line
abbrev pub fault_from : ℕ → Progress → List (ℕ × Token) → Option ReadFault
fault_from last p [] = end_in last (end_fault p.place)
fault_from last p (t ∷ tokens) = fault_or (step p t.1) t.0 (λ q. fault_from last q tokens)

abbrev pub nothing_yet : Progress
nothing_yet = record { objectives = 0; rows = false; place = Start }

abbrev pub first_fault : List ℕ → Option ReadFault
first_fault text =
    fault_from (length (lines_of text)) nothing_yet (numbered_tokens 1 (lines_of text))
