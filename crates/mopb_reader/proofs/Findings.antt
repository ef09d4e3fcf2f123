-- What was read or refused, against the first fault.
use Rattle.std.proofs.Common.{◌≡◌, ℕ, ◌+◌, ◌^◌, Bool, true, false, cond, List, [], ◌∷◌, ◌++◌, Option, Some, None, Result, Ok, Err, refl, sym, ap, ◌∙◌, subst}
use Rattle.std.specs.Prelude.{unsigned_abs, nat_le}
use Rattle.instance.specs.Shape.{terms_magnitude}
use Rattle.instance.specs.declared.fault.BadKind.{BadKind}
use Rattle.instance.specs.declared.fault.InstanceLimit.{InstanceLimit}
use Rattle.instance.specs.declared.fault.PlaceFault.{PlaceFault}
use Rattle.instance.specs.declared.fault.PlaceFault.TheVariants.{Bad, Limit, NoMemory}
use Rattle.instance.specs.declared.fault.ReadFault.{ReadFault}
use Rattle.instance.specs.Reading.{at_line, IsFaultOf}
use Rattle.mopb_reader.specs.FirstFault.{Kind, Objective, Constraint, limit_of, Place, Start, Head, Sign as AfterSign, Coefficient, Term as AfterTerm, Relation as AfterRelation, BoundSign, Bound, missing_at, Next, counted, indexed, after, Progress}
use Rattle.mopb_reader.specs.Grammar.{Term}
use Rattle.mopb_reader.specs.Streams.{Stream, IsTaken, begins_literal, begins_term, begins_row}
use Rattle.mopb_reader.specs.Steps.{after_taken, begun_taken, fault_at, fault_inside, Finds, Judges, place_of}
use Rattle.mopb_reader.specs.declared.token.Token.{Token}
use Rattle.mopb_reader.specs.declared.token.Token.TheVariants.{Sign, Number, Literal, Misspelled, Relation, Semicolon}
use Rattle.mopb_reader.proofs.Spelling.{magnitude_push}
use Rattle.mopb_reader.proofs.Places.{took}

told : (line : ℕ) (fault : PlaceFault) → IsFaultOf (Some (at_line line fault)) (at_line line fault)
told line (Bad kind) = refl
told line (Limit which) = refl
told line NoMemory = tt

pub fault_along : (first second : Option ReadFault) (fault : ReadFault) → first ≡ second → IsFaultOf second fault → IsFaultOf first fault
fault_along first second fault e found = subst (λ (o : Option ReadFault). IsFaultOf o fault) (sym e) found

pub found_along : {T : Type 0} (first second : Option ReadFault) (result : Result T PlaceFault) (s : Stream) (further : T → Option ReadFault) → first ≡ second → Finds second result s further → Finds first result s further
found_along first second result s further e found = subst (λ (o : Option ReadFault). Finds o result s further) (sym e) found

-- what is wrong with the token taken last
pub refused : (s : Stream) (p : Progress) (next : Next) (fault : PlaceFault) → next ≡ Err fault → IsFaultOf (fault_inside s p next) (at_line s.line fault)
refused s p next fault e = fault_along (fault_inside s p next) (Some (at_line s.line fault)) (at_line s.line fault) (ap (fault_inside s p) e) (told s.line fault)

-- digits behind a sign
number_there : (kind : Kind) (sum m : ℕ) (limit : InstanceLimit) (first : Option Token) (value : Option ℕ) → first ≡ Some (Number value) → limit ≡ limit_of kind → counted limit sum value (Coefficient kind) ≡ Ok (Coefficient kind m) → after_taken (AfterSign kind sum) first ≡ Ok (Coefficient kind m)
number_there kind sum m limit first value is_number is fits =
    ap (after_taken (AfterSign kind sum)) is_number ∙ ap (λ l. counted l sum value (Coefficient kind)) (sym is) ∙ fits

pub after_digits : (kind : Kind) (sum m : ℕ) (p : Progress) (limit : InstanceLimit) (first next : Option Token) (value : Option ℕ) (old new : Stream) → first ≡ Some (Number value) → limit ≡ limit_of kind → counted limit sum value (Coefficient kind) ≡ Ok (Coefficient kind m) → IsTaken next new old → new.last ≡ old.last → fault_inside old p (after_taken (AfterSign kind sum) first) ≡ fault_inside new p (after_taken (Coefficient kind m) next)
after_digits kind sum m p limit first next value old new is_number is fits taken last =
    ap (fault_inside old p) (number_there kind sum m limit first value is_number is fits) ∙ took next new old p (Coefficient kind m) tt taken last

pub digits_refused : (kind : Kind) (sum m : ℕ) (p : Progress) (limit : InstanceLimit) (first next : Option Token) (value : Option ℕ) (old new : Stream) (fault : PlaceFault) → first ≡ Some (Number value) → limit ≡ limit_of kind → counted limit sum value (Coefficient kind) ≡ Ok (Coefficient kind m) → IsTaken next new old → new.last ≡ old.last → after_taken (Coefficient kind m) next ≡ Err fault → IsFaultOf (fault_inside old p (after_taken (AfterSign kind sum) first)) (at_line new.line fault)
digits_refused kind sum m p limit first next value old new fault is_number is fits taken last judged =
    fault_along _ (fault_inside new p (after_taken (Coefficient kind m) next)) (at_line new.line fault) (after_digits kind sum m p limit first next value old new is_number is fits taken last) (refused new p (after_taken (Coefficient kind m) next) fault judged)

-- a literal behind a sign, or none
chosen : (b : Bool) (next other : Next) (place : Place) (fault : PlaceFault) → cond b (Ok place) other ≡ Err fault → cond b next other ≡ Err fault
chosen true next other place fault e = absurd cc
chosen false next other place fault e = e

taken_so : (b : Bool) (next : Next) (place : Place) (fault : PlaceFault) → cond b (Ok place) (Err fault) ≡ Ok place → cond b next (Err fault) ≡ next
taken_so true next place fault e = refl
taken_so false next place fault e = absurd cc

variable_wrong : (var : Option ℕ) (next : Next) (place : Place) (fault : PlaceFault) → indexed var (Ok place) ≡ Err fault → indexed var next ≡ Err fault
variable_wrong None next place fault e = e
variable_wrong (Some var) next place fault e = chosen (nat_le var (2 ^ 24)) next _ place fault e

variable_right : (var : Option ℕ) (next : Next) (place : Place) → indexed var (Ok place) ≡ Ok place → indexed var next ≡ next
variable_right None next place e = absurd cc
variable_right (Some var) next place e = taken_so (nat_le var (2 ^ 24)) next place _ e

pub bare_wrong : (kind : Kind) (sum : ℕ) (first : Option Token) (fault : PlaceFault) → ((value : Option ℕ) → first ≡ Some (Number value) → ⊥) → after_taken (Coefficient kind sum) first ≡ Err fault → after_taken (AfterSign kind sum) first ≡ Err fault
bare_wrong kind sum None fault other e = e
bare_wrong kind sum (Some (Number value)) fault other e = absurd (other value refl)
bare_wrong kind sum (Some (Literal var neg)) fault other e = variable_wrong var (counted (limit_of kind) sum (Some 1) (AfterTerm kind)) (AfterTerm kind sum) fault e
bare_wrong kind sum (Some token) fault other e = e

pub bare_right : (kind : Kind) (sum : ℕ) (first : Option Token) → ((value : Option ℕ) → first ≡ Some (Number value) → ⊥) → after_taken (Coefficient kind sum) first ≡ Ok (AfterTerm kind sum) → after_taken (AfterSign kind sum) first ≡ counted (limit_of kind) sum (Some 1) (AfterTerm kind)
bare_right kind sum None other e = absurd cc
bare_right kind sum (Some (Number value)) other e = absurd (other value refl)
bare_right kind sum (Some (Literal var neg)) other e = variable_right var (counted (limit_of kind) sum (Some 1) (AfterTerm kind)) (AfterTerm kind sum) e
bare_right kind sum (Some token) other e = absurd cc

pub bare_counted : (kind : Kind) (sum : ℕ) (limit : InstanceLimit) (first : Option Token) (next : Next) → ((value : Option ℕ) → first ≡ Some (Number value) → ⊥) → limit ≡ limit_of kind → after_taken (Coefficient kind sum) first ≡ Ok (AfterTerm kind sum) → counted limit sum (Some 1) (AfterTerm kind) ≡ next → after_taken (AfterSign kind sum) first ≡ next
bare_counted kind sum limit first next other is judged fits =
    bare_right kind sum first other judged ∙ ap (λ l. counted l sum (Some 1) (AfterTerm kind)) (sym is) ∙ fits

-- a sign where a term begins, or none
pub signed_begun : (kind : Kind) (sum : ℕ) (missing : BadKind) (p : Progress) (first next : Option Token) (minus : Bool) (old new : Stream) → first ≡ Some (Sign minus) → IsTaken next new old → new.last ≡ old.last → fault_inside old p (begun_taken kind sum missing first) ≡ fault_inside new p (after_taken (AfterSign kind sum) next)
signed_begun kind sum missing p first next minus old new is_sign taken last =
    ap (λ (s : Option Token). fault_inside old p (begun_taken kind sum missing s)) is_sign ∙ took next new old p (AfterSign kind sum) tt taken last

pub bare_begun : (kind : Kind) (sum : ℕ) (missing : BadKind) (first : Option Token) → ((minus : Bool) → first ≡ Some (Sign minus) → ⊥) → begins_term first ≡ true → begun_taken kind sum missing first ≡ after_taken (AfterSign kind sum) first
bare_begun kind sum missing None other begins = absurd cc
bare_begun kind sum missing (Some (Sign minus)) other begins = absurd (other minus refl)
bare_begun kind sum missing (Some (Number value)) other begins = refl
bare_begun kind sum missing (Some (Literal var neg)) other begins = refl
bare_begun kind sum missing (Some Misspelled) other begins = refl
bare_begun kind sum missing (Some token) other begins = absurd cc

-- what begins a term, where one may begin
further_begun : (kind : Kind) (sum : ℕ) (token : Token) → begins_term (Some token) ≡ true → begins_literal (Some token) ≡ false → after (AfterTerm kind sum) token ≡ begun_taken kind sum (missing_at (AfterTerm kind sum)) (Some token)
further_begun Objective sum (Sign minus) begins plain = refl
further_begun Objective sum (Number value) begins plain = refl
further_begun Constraint sum (Sign minus) begins plain = refl
further_begun Constraint sum (Number value) begins plain = refl
further_begun kind sum (Literal var neg) begins plain = absurd cc
further_begun kind sum Misspelled begins plain = absurd cc
further_begun kind sum token begins plain = absurd cc

head_begun_so : (token : Token) → begins_term (Some token) ≡ true → after Head token ≡ begun_taken Objective 0 (missing_at Head) (Some token)
head_begun_so Semicolon begins = absurd cc
head_begun_so token begins = refl

row_begun_so : (token : Token) → begins_term (Some token) ≡ true → after Start token ≡ begun_taken Constraint 0 (missing_at Start) (Some token)
row_begun_so (Relation rel) begins = absurd cc
row_begun_so token begins = refl

some_items : (token : Token) (item : Term) (items : List Term) (b : Bool) → begins_literal (Some token) ≡ b → (begins_literal (Some token) ≡ true → item ∷ items ≡ []) → begins_literal (Some token) ≡ false
some_items token item items true e none = let never : item ∷ items ≡ [] = none e in absurd cc
some_items token item items false e none = e

pub begun_there : (kind : Kind) (items : List Term) (next : Option Token) → begins_term next ≡ true → (begins_literal next ≡ true → items ≡ []) → after_taken (place_of kind items) next ≡ begun_taken kind (terms_magnitude items) (missing_at (place_of kind items)) next
begun_there kind items None begins none = absurd cc
begun_there Objective [] (Some token) begins none = head_begun_so token begins
begun_there Constraint [] (Some token) begins none = row_begun_so token begins
begun_there kind (item ∷ items) (Some token) begins none = further_begun kind (terms_magnitude (item ∷ items)) token begins (some_items token item items (begins_literal (Some token)) refl none)

place_push : (kind : Kind) (items : List Term) (term : Term) → place_of kind (items ++ term ∷ []) ≡ AfterTerm kind (terms_magnitude (items ++ term ∷ []))
place_push Objective [] term = refl
place_push Constraint [] term = refl
place_push Objective (item ∷ items) term = refl
place_push Constraint (item ∷ items) term = refl

-- one term more
pub term_more : (kind : Kind) (p : Progress) (first : Option ReadFault) (items : List Term) (term : Term) (next further : Option Token) (old middle new : Stream) → first ≡ fault_inside old p (after_taken (place_of kind items) next) → begins_term next ≡ true → (begins_literal next ≡ true → items ≡ []) → fault_inside old p (begun_taken kind (terms_magnitude items) (missing_at (place_of kind items)) next) ≡ fault_at middle p (AfterTerm kind (terms_magnitude items + unsigned_abs term.0)) → IsTaken further new middle → new.last ≡ middle.last → first ≡ fault_inside new p (after_taken (place_of kind (items ++ term ∷ [])) further)
term_more kind p first items term next further old middle new so_far begins none read taken last =
    so_far
    ∙ ap (fault_inside old p) (begun_there kind items next begins none)
    ∙ read
    ∙ ap (λ n. fault_at middle p (AfterTerm kind n)) (sym (magnitude_push items term))
    ∙ took further new middle p (AfterTerm kind (terms_magnitude (items ++ term ∷ []))) tt taken last
    ∙ ap (λ place. fault_inside new p (after_taken place further)) (sym (place_push kind items term))

pub term_refused : (kind : Kind) (p : Progress) (first : Option ReadFault) (items : List Term) (next : Option Token) (old new : Stream) (fault : PlaceFault) → first ≡ fault_inside old p (after_taken (place_of kind items) next) → begins_term next ≡ true → (begins_literal next ≡ true → items ≡ []) → IsFaultOf (fault_inside old p (begun_taken kind (terms_magnitude items) (missing_at (place_of kind items)) next)) (at_line new.line fault) → IsFaultOf first (at_line new.line fault)
term_refused kind p first items next old new fault so_far begins none found =
    fault_along first _ (at_line new.line fault) (so_far ∙ ap (fault_inside old p) (begun_there kind items next begins none)) found

pub push_some : {X : Type 0} (xs : List X) (x : X) → xs ++ x ∷ [] ≡ [] → ⊥
push_some [] x e = absurd cc
push_some (y ∷ xs) x e = absurd cc

-- where terms end: an objective does, or its fault is that of a bound
head_ends : (token : Token) → begins_term (Some token) ≡ false → after Head token ≡ after Bound token
head_ends Semicolon ended = refl
head_ends (Sign minus) ended = absurd cc
head_ends (Number value) ended = absurd cc
head_ends (Literal var neg) ended = absurd cc
head_ends Misspelled ended = absurd cc
head_ends token ended = refl

objective_ends : (sum : ℕ) (token : Token) → begins_term (Some token) ≡ false → after (AfterTerm Objective sum) token ≡ after Bound token
objective_ends sum Semicolon ended = refl
objective_ends sum (Sign minus) ended = absurd cc
objective_ends sum (Number value) ended = absurd cc
objective_ends sum (Literal var neg) ended = absurd cc
objective_ends sum Misspelled ended = absurd cc
objective_ends sum token ended = refl

pub end_there : (items : List Term) (next : Option Token) → begins_term next ≡ false → after_taken (place_of Objective items) next ≡ after_taken Bound next
end_there [] None ended = refl
end_there (item ∷ items) None ended = refl
end_there [] (Some token) ended = head_ends token ended
end_there (item ∷ items) (Some token) ended = objective_ends (terms_magnitude (item ∷ items)) token ended

-- a constraint goes on with a relation
first_relation : (first : Token) → begins_row first ≡ true → begins_term (Some first) ≡ false → after Start first ≡ after (AfterTerm Constraint 0) first
first_relation (Relation rel) row ended = refl
first_relation (Sign minus) row ended = absurd cc
first_relation (Number value) row ended = absurd cc
first_relation (Literal var neg) row ended = absurd cc
first_relation Misspelled row ended = absurd cc
first_relation token row ended = absurd cc

pub relation_there : (items : List Term) (next : Option Token) (first : Token) → (items ≡ [] → next ≡ Some first) → begins_row first ≡ true → begins_term next ≡ false → after_taken (place_of Constraint items) next ≡ after_taken (AfterTerm Constraint (terms_magnitude items)) next
relation_there [] next first same row ended =
    let e : next ≡ Some first = same refl in
    ap (after_taken Start) e ∙ first_relation first row (ap begins_term (sym e) ∙ ended) ∙ ap (after_taken (AfterTerm Constraint 0)) (sym e)
relation_there (item ∷ items) next first same row ended = refl

-- a bound
pub signed_bound : (sum : ℕ) (p : Progress) (first next : Option Token) (minus : Bool) (old middle new : Stream) → first ≡ Some (Sign minus) → IsTaken first middle old → middle.last ≡ old.last → IsTaken next new middle → new.last ≡ middle.last → fault_at old p (AfterRelation sum) ≡ fault_inside new p (after_taken (BoundSign sum) next)
signed_bound sum p first next minus old middle new is_sign taken last more after =
    took first middle old p (AfterRelation sum) tt taken last
    ∙ ap (λ (s : Option Token). fault_inside middle p (after_taken (AfterRelation sum) s)) is_sign
    ∙ took next new middle p (BoundSign sum) tt more after

plain_bound : (sum : ℕ) (first : Option Token) → ((minus : Bool) → first ≡ Some (Sign minus) → ⊥) → after_taken (AfterRelation sum) first ≡ after_taken (BoundSign sum) first
plain_bound sum None other = refl
plain_bound sum (Some (Sign minus)) other = absurd (other minus refl)
plain_bound sum (Some token) other = refl

pub bare_bound : (sum : ℕ) (p : Progress) (first : Option Token) (old new : Stream) → ((minus : Bool) → first ≡ Some (Sign minus) → ⊥) → IsTaken first new old → new.last ≡ old.last → fault_at old p (AfterRelation sum) ≡ fault_inside new p (after_taken (BoundSign sum) first)
bare_bound sum p first old new other taken last =
    took first new old p (AfterRelation sum) tt taken last ∙ ap (fault_inside new p) (plain_bound sum first other)

-- what was judged of the token taken last
pub judged_found : {T : Type 0} (first : Option ReadFault) (s : Stream) (p : Progress) (next : Next) (result : Result T PlaceFault) (place : Place) → first ≡ fault_inside s p next → Judges next result (λ _. place) → Finds first result s (λ _. fault_at s p place)
judged_found first s p next (Ok x) place e judged = e ∙ ap (fault_inside s p) judged
judged_found first s p next (Err fault) place e judged = fault_along first (fault_inside s p next) (at_line s.line fault) e (refused s p next fault judged)

-- an objective's terms, and what follows them
pub objective_so : (p : Progress) (first next : Option Token) (items : List Term) (old middle new : Stream) → IsTaken first middle old → middle.last ≡ old.last → fault_inside middle p (after_taken Head first) ≡ fault_inside new p (after_taken (place_of Objective items) next) → begins_term next ≡ false → fault_at old p Head ≡ fault_inside new p (after_taken Bound next)
objective_so p first next items old middle new taken last read ended =
    took first middle old p Head tt taken last ∙ read ∙ ap (fault_inside new p) (end_there items next ended)

-- a row's terms, and what follows them
pub row_so : (p : Progress) (first : Token) (next : Option Token) (items : List Term) (old new : Stream) → fault_inside old p (after Start first) ≡ fault_inside new p (after_taken (place_of Constraint items) next) → (items ≡ [] → next ≡ Some first) → begins_row first ≡ true → begins_term next ≡ false → fault_inside old p (after Start first) ≡ fault_inside new p (after_taken (AfterTerm Constraint (terms_magnitude items)) next)
row_so p first next items old new read same row ended = read ∙ ap (fault_inside new p) (relation_there items next first same row ended)
