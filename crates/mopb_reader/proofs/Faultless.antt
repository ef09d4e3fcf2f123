-- A text that spells an instance has no fault.
use Rattle.std.proofs.Common.{◌≡◌, ℕ, ◌+◌, ◌<◌, ◌≤◌, ◌^◌, Bool, true, false, List, [], ◌∷◌, length, Option, Some, None, Ok, Err, refl, sym, ap, ◌∙◌, subst, ℤ, arith}
use Rattle.std.specs.Prelude.{nat_le, unsigned_abs, if◌then◌else◌}
use Rattle.std.specs.List.{All}
use Rattle.std.proofs.lemmas.Bool.Decides.{nat_tests}
use Rattle.std.proofs.lemmas.Int.{ints}
use Rattle.std.proofs.lemmas.List.Elements.{All-head, All-tail}
use Rattle.std.proofs.lemmas.List.Sums.{sum_by-cons}
use Rattle.scut_base.specs.Number.{signed_value}
use Rattle.instance.specs.declared.row.Linear.{Linear}
use Rattle.instance.specs.declared.row.Rel.{Rel}
use Rattle.instance.specs.declared.objective.Objective.{Objective as Goal}
use Rattle.instance.specs.declared.objective.Sense.{Sense}
use Rattle.instance.specs.declared.fault.InstanceLimit.{InstanceLimit}
use Rattle.instance.specs.declared.fault.InstanceLimit.TheVariants.{Objectives}
use Rattle.instance.specs.declared.fault.PlaceFault.{PlaceFault}
use Rattle.instance.specs.declared.fault.PlaceFault.TheVariants.{Limit}
use Rattle.instance.specs.declared.fault.ReadFault.{ReadFault}
use Rattle.instance.specs.Shape.{InstanceValue, terms_magnitude, IsRowWithin, IsObjectiveWithin}
use Rattle.mopb_reader.specs.Tokens.{lines_of, numbered_tokens, plain, tokens_of}
use Rattle.mopb_reader.specs.FirstFault.{Kind, Objective, Constraint, limit_of, Place, Start, Head, Sign, Coefficient, Term as AfterTerm, Relation, BoundSign, Bound, Next, counted, indexed, after, Progress, Progressed, moved, step, fault_or, end_in, end_fault, fault_from, first_fault, nothing_yet}
use Rattle.mopb_reader.specs.Grammar.{Term, term_of, FurtherTerms, TermsThen, BoundThen, Spells, largest_of, largest_in_objectives, largest_in_rows, EndThen, SpellsRows, SpellsStatements}
use Rattle.mopb_reader.specs.Steps.{placed}
use Rattle.mopb_reader.specs.declared.token.Token.{Token}
use Rattle.mopb_reader.specs.declared.token.Token.TheVariants.{Sign as SignToken, Number, Literal, Head as HeadToken, Relation as RelationToken, Semicolon}
use Rattle.mopb_reader.proofs.Cutting.{below}
use Rattle.mopb_reader.proofs.Places.{Inside, step_inside}

-- the first fault of tokens, without its line
abbrev pub fault_then : Progressed → (Progress → Option PlaceFault) → Option PlaceFault
fault_then (Ok p) further = further p
fault_then (Err fault) further = Some fault

abbrev pub fault_in : Progress → List Token → Option PlaceFault
fault_in p [] = end_fault p.place
fault_in p (t ∷ tokens) = fault_then (step p t) (λ q. fault_in q tokens)

-- a line more or less makes no fault
end_lined : (line : ℕ) (fault : Option PlaceFault) → fault ≡ None → end_in line fault ≡ None
end_lined line None e = refl
end_lined line (Some fault) e = absurd cc

end_bare : (line : ℕ) (fault : Option PlaceFault) → end_in line fault ≡ None → fault ≡ None
end_bare line None e = refl
end_bare line (Some fault) e = absurd cc

then_lined : (next : Progressed) (line : ℕ) (f : Progress → Option ReadFault) (g : Progress → Option PlaceFault)
    → ((q : Progress) → g q ≡ None → f q ≡ None) → fault_then next g ≡ None → fault_or next line f ≡ None
then_lined (Ok q) line f g more e = more q e
then_lined (Err fault) line f g more e = absurd cc

then_bare : (next : Progressed) (line : ℕ) (f : Progress → Option ReadFault) (g : Progress → Option PlaceFault)
    → ((q : Progress) → f q ≡ None → g q ≡ None) → fault_or next line f ≡ None → fault_then next g ≡ None
then_bare (Ok q) line f g more e = more q e
then_bare (Err fault) line f g more e = absurd cc

lined : (last : ℕ) (p : Progress) (left : List (ℕ × Token)) → fault_in p (plain left) ≡ None → fault_from last p left ≡ None
lined last p [] e = end_lined last (end_fault p.place) e
lined last p (t ∷ left) e =
    then_lined (step p t.1) t.0 (λ q. fault_from last q left) (λ q. fault_in q (plain left)) (λ q. lined last q left) e

pub bare : (last : ℕ) (p : Progress) (left : List (ℕ × Token)) → fault_from last p left ≡ None → fault_in p (plain left) ≡ None
bare last p [] e = end_bare last (end_fault p.place) e
bare last p (t ∷ left) e =
    then_bare (step p t.1) t.0 (λ q. fault_from last q left) (λ q. fault_in q (plain left)) (λ q. bare last q left) e

-- from a place on
abbrev fault_on : Progress → Place → List Token → Option PlaceFault
fault_on p place tokens = fault_in (placed p place) tokens

abbrev pub fault_after : Progress → Next → List Token → Option PlaceFault
fault_after p next tokens = fault_then (moved p p.rows next) (λ q. fault_in q tokens)

-- no fault from a place on
abbrev Passes : Progress → Place → List Token → Type 0
Passes p place tokens = fault_on p place tokens ≡ None

goes_to : (p : Progress) (place further : Place) (t : Token) (rest : List Token) → Inside place
    → after place t ≡ Ok further → Passes p further rest → Passes p place (t ∷ rest)
goes_to p place further t rest inside e passes =
    ap (λ next. fault_then next (λ q. fault_in q rest)) (step_inside p place t inside)
    ∙ ap (λ next. fault_after p next rest) e ∙ passes

-- numbers within the limits
at_most : (n m : ℕ) → n ≤ m → nat_le n m ≡ true
at_most n m le = grind (arith, nat_tests)

counted_fits : (limit : InstanceLimit) (sum n : ℕ) (after : ℕ → Place) → sum + n < 2 ^ 63
    → counted limit sum (Some n) after ≡ Ok (after (sum + n))
counted_fits limit sum n after small = rw (below (sum + n) (2 ^ 63) small) refl

indexed_fits : (v : ℕ) (next : Next) → v ≤ 2 ^ 24 → indexed (Some v) next ≡ next
indexed_fits v next small = rw (at_most v (2 ^ 24) small) refl

pub size_of : (minus : Bool) (n : ℕ) → unsigned_abs (signed_value minus n) ≡ n
size_of false n = refl
size_of true n = omega (arith, ints)

pub magnitude_cons : (t : Term) (ts : List Term) → terms_magnitude (t ∷ ts) ≡ unsigned_abs t.0 + terms_magnitude ts
magnitude_cons t ts = sum_by-cons (λ x. unsigned_abs x.0) t ts

-- what is known of a term that is spelled
term_size : (t : Term) (minus : Bool) (n v : ℕ) (neg : Bool) → t ≡ term_of minus n v neg → unsigned_abs t.0 ≡ n
term_size t minus n v neg is = ap (λ (x : Term). unsigned_abs x.0) is ∙ size_of minus n

term_var : (t : Term) (minus : Bool) (n v : ℕ) (neg : Bool) → t ≡ term_of minus n v neg → t.1.var ≡ v
term_var t minus n v neg is = ap (λ (x : Term). x.1.var) is

-- ---- terms

-- digits and a literal
counted_passes : (p : Progress) (kind : Kind) (place : Place) (sum n v : ℕ) (neg : Bool) (tokens : List Token) → Inside place
    → after place (Number (Some n)) ≡ counted (limit_of kind) sum (Some n) (Coefficient kind) → sum + n < 2 ^ 63 → v ≤ 2 ^ 24
    → Passes p (AfterTerm kind (sum + n)) tokens → Passes p place (Number (Some n) ∷ Literal (Some v) neg ∷ tokens)
counted_passes p kind place sum n v neg tokens inside e small within passes =
    goes_to p place (Coefficient kind (sum + n)) (Number (Some n)) (Literal (Some v) neg ∷ tokens) inside
    (e ∙ counted_fits (limit_of kind) sum n (Coefficient kind) small)
    (goes_to p (Coefficient kind (sum + n)) (AfterTerm kind (sum + n)) (Literal (Some v) neg) tokens tt
    (indexed_fits v (Ok (AfterTerm kind (sum + n))) within) passes)

-- a literal by itself
lone_fits : (kind : Kind) (sum v : ℕ) → sum + 1 < 2 ^ 63 → v ≤ 2 ^ 24
    → indexed (Some v) (counted (limit_of kind) sum (Some 1) (AfterTerm kind)) ≡ Ok (AfterTerm kind (sum + 1))
lone_fits kind sum v small within =
    indexed_fits v (counted (limit_of kind) sum (Some 1) (AfterTerm kind)) within ∙ counted_fits (limit_of kind) sum 1 (AfterTerm kind) small

signed_on : (kind : Kind) (sum : ℕ) (minus : Bool) → after (AfterTerm kind sum) (SignToken minus) ≡ Ok (Sign kind sum)
signed_on Objective sum minus = refl
signed_on Constraint sum minus = refl

counted_on : (kind : Kind) (sum : ℕ) (n : Option ℕ) → after (AfterTerm kind sum) (Number n) ≡ counted (limit_of kind) sum n (Coefficient kind)
counted_on Objective sum n = refl
counted_on Constraint sum n = refl

-- the terms pass where the rest does after them
abbrev PassesAfter : Progress → Kind → ℕ → (List Token → Type 0) → Type 0
PassesAfter p kind sum P = (rest : List Token) → P rest → Passes p (AfterTerm kind sum) rest

passes_sum : (p : Progress) (kind : Kind) (a b : ℕ) (P : List Token → Type 0) → a ≡ b → PassesAfter p kind a P → PassesAfter p kind b P
passes_sum p kind a b P e rest_passes rest is = subst (λ (n : ℕ). Passes p (AfterTerm kind n) rest) e (rest_passes rest is)

further_passes : (p : Progress) (kind : Kind) (P : List Token → Type 0) (sum : ℕ) (terms : List Term) (tokens : List Token)
    → FurtherTerms P tokens terms → sum + terms_magnitude terms < 2 ^ 63 → largest_of terms ≤ 2 ^ 24
    → PassesAfter p kind (sum + terms_magnitude terms) P → Passes p (AfterTerm kind sum) tokens
further_passes p kind P sum [] tokens is small within rest_passes =
    passes_sum p kind (sum + terms_magnitude []) sum P (omega arith) rest_passes tokens is
further_passes p kind P sum (t ∷ terms) (Number (Some n) ∷ Literal (Some v) neg ∷ tokens) is small within rest_passes =
    let size = term_size t false n v neg is.0 in
    let all = magnitude_cons t terms in
    counted_passes p kind (AfterTerm kind sum) sum n v neg tokens tt (counted_on kind sum (Some n)) (omega (arith, size, all, small))
    (omega (arith, term_var t false n v neg is.0, within))
    (further_passes p kind P (sum + n) terms tokens is.1 (omega (arith, size, all, small)) (omega (arith, within))
    (passes_sum p kind _ (sum + n + terms_magnitude terms) P (omega (arith, size, all)) rest_passes))
further_passes p kind P sum (t ∷ terms) (SignToken minus ∷ Literal (Some v) neg ∷ tokens) is small within rest_passes =
    let size = term_size t minus 1 v neg is.0 in
    let all = magnitude_cons t terms in
    goes_to p (AfterTerm kind sum) (Sign kind sum) (SignToken minus) (Literal (Some v) neg ∷ tokens) tt (signed_on kind sum minus)
    (goes_to p (Sign kind sum) (AfterTerm kind (sum + 1)) (Literal (Some v) neg) tokens tt
    (lone_fits kind sum v (omega (arith, size, all, small)) (omega (arith, term_var t minus 1 v neg is.0, within)))
    (further_passes p kind P (sum + 1) terms tokens is.1 (omega (arith, size, all, small)) (omega (arith, within))
    (passes_sum p kind _ (sum + 1 + terms_magnitude terms) P (omega (arith, size, all)) rest_passes)))
further_passes p kind P sum (t ∷ terms) (SignToken minus ∷ Number (Some n) ∷ Literal (Some v) neg ∷ tokens) is small within rest_passes =
    let size = term_size t minus n v neg is.0 in
    let all = magnitude_cons t terms in
    goes_to p (AfterTerm kind sum) (Sign kind sum) (SignToken minus) (Number (Some n) ∷ Literal (Some v) neg ∷ tokens) tt (signed_on kind sum minus)
    (counted_passes p kind (Sign kind sum) sum n v neg tokens tt refl (omega (arith, size, all, small))
    (omega (arith, term_var t minus n v neg is.0, within))
    (further_passes p kind P (sum + n) terms tokens is.1 (omega (arith, size, all, small)) (omega (arith, within))
    (passes_sum p kind _ (sum + n + terms_magnitude terms) P (omega (arith, size, all)) rest_passes)))
further_passes p kind P sum (t ∷ terms) tokens is small within rest_passes = absurd is

-- ---- statements

end_passes : (p : Progress) (place : Place) (P : List Token → Type 0) → Inside place → after place Semicolon ≡ Ok Start
    → ((rest : List Token) → P rest → Passes p Start rest) → (tokens : List Token) → EndThen P tokens → Passes p place tokens
end_passes p place P inside e rest_passes (Semicolon ∷ tokens) is = goes_to p place Start Semicolon tokens inside e (rest_passes tokens is)
end_passes p place P inside e rest_passes tokens is = absurd is

-- an objective, after its head
head_further : (p : Progress) (P : List Token → Type 0) (tokens : List Token) (t : Term) (terms : List Term)
    → FurtherTerms P tokens (t ∷ terms) → Passes p (AfterTerm Objective 0) tokens → Passes p Head tokens
head_further p P (SignToken minus ∷ tokens) t terms is passes = passes
head_further p P (Number n ∷ tokens) t terms is passes = passes
head_further p P tokens t terms is passes = absurd is

objective_passes : (p : Progress) (P : List Token → Type 0) (terms : List Term) (tokens : List Token)
    → TermsThen (EndThen P) tokens terms → terms_magnitude terms < 2 ^ 63 → largest_of terms ≤ 2 ^ 24
    → ((rest : List Token) → P rest → Passes p Start rest) → Passes p Head tokens
objective_passes p P [] tokens is small within rest_passes = end_passes p Head P tt refl rest_passes tokens is
objective_passes p P (t ∷ terms) (Literal (Some v) neg ∷ tokens) is small within rest_passes =
    let size = term_size t false 1 v neg is.0 in
    let all = magnitude_cons t terms in
    goes_to p Head (AfterTerm Objective (0 + 1)) (Literal (Some v) neg) tokens tt
    (lone_fits Objective 0 v (omega arith) (omega (arith, term_var t false 1 v neg is.0, within)))
    (further_passes p Objective (EndThen P) (0 + 1) terms tokens is.1 (omega (arith, size, all, small)) (omega (arith, within))
    (end_passes p (AfterTerm Objective (0 + 1 + terms_magnitude terms)) P tt refl rest_passes))
objective_passes p P (t ∷ terms) tokens is small within rest_passes =
    head_further p (EndThen P) tokens t terms is
    (further_passes p Objective (EndThen P) 0 (t ∷ terms) tokens is (omega (arith, small)) within
    (end_passes p (AfterTerm Objective (0 + terms_magnitude (t ∷ terms))) P tt refl rest_passes))

-- a row's relation and bound
bound_passes : (p : Progress) (sum : ℕ) (rel : Rel) (bound : ℤ) (P : List Token → Type 0) → sum + unsigned_abs bound < 2 ^ 63
    → ((rest : List Token) → P rest → Passes p Start rest)
    → (tokens : List Token) → BoundThen rel bound (EndThen P) tokens → Passes p (AfterTerm Constraint sum) tokens
bound_passes p sum rel bound P small rest_passes (RelationToken r ∷ Number (Some n) ∷ tokens) is =
    let size : unsigned_abs bound ≡ n = ap unsigned_abs is.1 ∙ size_of false n in
    goes_to p (AfterTerm Constraint sum) (Relation sum) (RelationToken r) (Number (Some n) ∷ tokens) tt refl
    (goes_to p (Relation sum) Bound (Number (Some n)) tokens tt (counted_fits _ sum n (λ _. Bound) (omega (arith, size, small)))
    (end_passes p Bound P tt refl rest_passes tokens is.2))
bound_passes p sum rel bound P small rest_passes (RelationToken r ∷ SignToken minus ∷ Number (Some n) ∷ tokens) is =
    let size : unsigned_abs bound ≡ n = ap unsigned_abs is.1 ∙ size_of minus n in
    goes_to p (AfterTerm Constraint sum) (Relation sum) (RelationToken r) (SignToken minus ∷ Number (Some n) ∷ tokens) tt refl
    (goes_to p (Relation sum) (BoundSign sum) (SignToken minus) (Number (Some n) ∷ tokens) tt refl
    (goes_to p (BoundSign sum) Bound (Number (Some n)) tokens tt (counted_fits _ sum n (λ _. Bound) (omega (arith, size, small)))
    (end_passes p Bound P tt refl rest_passes tokens is.2)))
bound_passes p sum rel bound P small rest_passes tokens is = absurd is

-- where a row begins
abbrev in_row : Progress → Progress
in_row p = record { objectives = p.objectives; rows = true; place = Start }

moved_row : (p : Progress) (next : Next) (rest : List Token)
    → fault_then (moved (placed p Start) true next) (λ q. fault_in q rest) ≡ fault_after (in_row p) next rest
moved_row p (Ok place) rest = refl
moved_row p (Err fault) rest = refl

row_further : (p : Progress) (P : List Token → Type 0) (tokens : List Token) (t : Term) (terms : List Term)
    → FurtherTerms P tokens (t ∷ terms) → Passes (in_row p) (AfterTerm Constraint 0) tokens → Passes p Start tokens
row_further p P (SignToken minus ∷ tokens) t terms is passes = passes
row_further p P (Number n ∷ tokens) t terms is passes =
    moved_row p (after Start (Number n)) tokens
    ∙ sym (ap (λ next. fault_then next (λ q. fault_in q tokens)) (step_inside (in_row p) (AfterTerm Constraint 0) (Number n) tt)) ∙ passes
row_further p P tokens t terms is passes = absurd is

row_bound : (p : Progress) (rel : Rel) (bound : ℤ) (P : List Token → Type 0) (tokens : List Token) → BoundThen rel bound P tokens
    → Passes (in_row p) (AfterTerm Constraint 0) tokens → Passes p Start tokens
row_bound p rel bound P (RelationToken r ∷ tokens) is passes = passes
row_bound p rel bound P tokens is passes = absurd is

row_passes : (p : Progress) (row : Linear) (P : List Token → Type 0) (terms : List Term) (tokens : List Token)
    → TermsThen (BoundThen row.rel row.bound (EndThen P)) tokens terms → terms_magnitude terms + unsigned_abs row.bound < 2 ^ 63
    → largest_of terms ≤ 2 ^ 24 → ((rest : List Token) → P rest → Passes (in_row p) Start rest) → Passes p Start tokens
row_passes p row P [] tokens is small within rest_passes =
    row_bound p row.rel row.bound (EndThen P) tokens is (bound_passes (in_row p) 0 row.rel row.bound P (omega (arith, small)) rest_passes tokens is)
row_passes p row P (t ∷ terms) (Literal (Some v) neg ∷ tokens) is small within rest_passes =
    let size = term_size t false 1 v neg is.0 in
    let all = magnitude_cons t terms in
    let fits = lone_fits Constraint 0 v (omega arith) (omega (arith, term_var t false 1 v neg is.0, within)) in
    moved_row p (after Start (Literal (Some v) neg)) tokens ∙ ap (λ next. fault_after (in_row p) next tokens) fits
    ∙ further_passes (in_row p) Constraint (BoundThen row.rel row.bound (EndThen P)) (0 + 1) terms tokens is.1
    (omega (arith, size, all, small)) (omega (arith, within))
    (bound_passes (in_row p) (0 + 1 + terms_magnitude terms) row.rel row.bound P (omega (arith, size, all, small)) rest_passes)
row_passes p row P (t ∷ terms) tokens is small within rest_passes =
    row_further p (BoundThen row.rel row.bound (EndThen P)) tokens t terms is
    (further_passes (in_row p) Constraint (BoundThen row.rel row.bound (EndThen P)) 0 (t ∷ terms) tokens is (omega (arith, small)) within
    (bound_passes (in_row p) (0 + terms_magnitude (t ∷ terms)) row.rel row.bound P (omega (arith, small)) rest_passes))

-- all rows, and all objectives before them
abbrev started : ℕ → Bool → Progress
started n rows = record { objectives = n; rows = rows; place = Start }

rows_pass : (n v : ℕ) (rows : List Linear) (seen : Bool) (tokens : List Token) → SpellsRows rows tokens → All (IsRowWithin v) rows
    → largest_in_rows rows ≤ 2 ^ 24 → fault_in (started n seen) tokens ≡ None
rows_pass n v [] seen tokens is limits within = ap (fault_in (started n seen)) is
rows_pass n v (row ∷ rows) seen tokens is limits within =
    let here : IsRowWithin v row = All-head (IsRowWithin v) row rows limits in
    row_passes (started n seen) row (SpellsRows rows) row.terms tokens is here.magnitude (omega arith)
    (λ rest rest_passes. rows_pass n v rows true rest rest_passes (All-tail (IsRowWithin v) row rows limits) (omega arith))

head_passes : (n : ℕ) (sense : Sense) (rest : List Token) → n < 64
    → Passes (started (n + 1) false) Head rest → fault_in (started n false) (HeadToken sense ∷ rest) ≡ None
head_passes n sense rest room passes =
    ap (λ b. fault_then (if b then Ok (record { objectives = n + 1; rows = false; place = Head }) else Err (Limit Objectives)) (λ q. fault_in q rest))
    (below n 64 room) ∙ passes

all_pass : (v : ℕ) (objectives : List Goal) (rows : List Linear) (n : ℕ) (tokens : List Token) → SpellsStatements objectives rows tokens
    → All (IsObjectiveWithin v) objectives → All (IsRowWithin v) rows → largest_in_objectives objectives ≤ 2 ^ 24
    → largest_in_rows rows ≤ 2 ^ 24 → n + length objectives ≤ 64 → fault_in (started n false) tokens ≡ None
all_pass v [] rows n tokens is limits rows_limits within rows_within room = rows_pass n v rows false tokens is rows_limits rows_within
all_pass v (o ∷ objectives) rows n (HeadToken sense ∷ tokens) is limits rows_limits within rows_within room =
    let here : IsObjectiveWithin v o = All-head (IsObjectiveWithin v) o objectives limits in
    head_passes n sense tokens (omega arith)
    (objective_passes (started (n + 1) false) (SpellsStatements objectives rows) o.terms tokens is.1 (omega (arith, here.magnitude)) (omega arith)
    (λ rest rest_passes. all_pass v objectives rows (n + 1) rest rest_passes (All-tail (IsObjectiveWithin v) o objectives limits) rows_limits
    (omega arith) rows_within (omega arith)))
all_pass v (o ∷ objectives) rows n tokens is limits rows_limits within rows_within room = absurd is

pub spelled_faultless : (text : List ℕ) (i : InstanceValue) → Spells text i → first_fault text ≡ None
spelled_faultless text i spelled =
    let limits = spelled.limits in
    lined (length (lines_of text)) nothing_yet (numbered_tokens 1 (lines_of text))
    (all_pass i.vars i.objectives i.linear 0 (tokens_of text) spelled.statements limits.objectives limits.rows
    (omega (arith, spelled.variables, limits.variables)) (omega (arith, spelled.variables, limits.variables)) (omega (arith, limits.count)))
