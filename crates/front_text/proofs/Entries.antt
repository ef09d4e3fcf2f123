-- A text begins with one list of so many entries at most.
use Rattle.std.proofs.Common.{◌≡◌, ℕ, ◌+◌, ◌*◌, ◌<◌, ◌≤◌, ◌^◌, Bool, List, [], ◌∷◌, ◌++◌, length, ℤ, refl, sym, ap, ◌∙◌, arith, length-append}
use Rattle.std.specs.Prelude.{All, Err}
use Rattle.std.specs.List.{flat_map}
use Rattle.std.proofs.lemmas.List.{append_assoc}
use Rattle.std.proofs.lemmas.List.Elements.{All-head, All-tail}
use Rattle.front_set.specs.declared.entry.Entry.{Entry}
use Rattle.front_set.specs.ListText.{costs_line, model_line, entry_text}
use Rattle.front_text.specs.declared.entry.LineFault.{LineFault}
use Rattle.front_text.specs.declared.entry.LineFault.TheVariants.{Wrong, NoMemory}
use Rattle.front_text.specs.Spelling.{IsCost, HasCosts}
use Rattle.front_text.specs.Reading.{Reads}
use Rattle.front_text.proofs.Parts.{cons_same}
use Rattle.front_text.proofs.Costs.{one_costs_line}
use Rattle.front_text.proofs.Models.{one_model_line, model_line_length}

abbrev pub entries_text : List Entry → List ℕ
entries_text entries = flat_map entry_text entries

same_entry : (e f : Entry) → e.costs ≡ f.costs → e.model ≡ f.model → e ≡ f
same_entry e f costs model =
    let made : List ℤ → List Bool → Entry = λ c m. record { costs = c; model = m } in
    ap (λ c. made c e.model) costs ∙ ap (λ m. made f.costs m) model

-- five bytes at least, and one for each value
entry_length : (e : Entry) → length e.model + 5 ≤ length (entry_text e)
entry_length e =
    let model : length e.model + 4 ≤ length (model_line e.model) = model_line_length e.model in
    let sum : length (entry_text e) ≡ length (costs_line e.costs) + length (model_line e.model) = length-append (costs_line e.costs) (model_line e.model) in
    let some : 1 ≤ length (costs_line e.costs) = omega arith in
    omega arith

pub entries_length : (entries : List Entry) → 5 * length entries ≤ length (entries_text entries)
entries_length [] = omega arith
entries_length (e ∷ entries) =
    let rest : 5 * length entries ≤ length (entries_text entries) = entries_length entries in
    let one : length e.model + 5 ≤ length (entry_text e) = entry_length e in
    let sum : length (entries_text (e ∷ entries)) ≡ length (entry_text e) + length (entries_text entries) = length-append (entry_text e) (entries_text entries) in
    omega arith

-- the lines of an entry, and what follows them
pub entry_lines_is : (e : Entry) (rest : List ℕ) → entry_text e ++ rest ≡ costs_line e.costs ++ (model_line e.model ++ rest)
entry_lines_is e rest = append_assoc (costs_line e.costs) (model_line e.model) rest

pub one_entry : (e f : Entry) (r s : List ℕ) → HasCosts e → HasCosts f → length (entry_text e ++ r) < 2 ^ 64 → entry_text e ++ r ≡ entry_text f ++ s → (e ≡ f) × (r ≡ s)
one_entry e f r s left right short is =
    let costs = one_costs_line e.costs f.costs (model_line e.model ++ r) (model_line f.model ++ s) left right (rw (entry_lines_is e r, entry_lines_is f s) at is) in
    let long : length e.model + 5 ≤ length (entry_text e) = entry_length e in
    let sum : length (entry_text e ++ r) ≡ length (entry_text e) + length r = length-append (entry_text e) r in
    let model = one_model_line e.model f.model r s (omega arith) costs.1 in
    (same_entry e f costs.0 model.0, model.1)

-- the first entry, and what follows it
first_entry_is : (e : Entry) (entries : List Entry) (rest : List ℕ) → entries_text (e ∷ entries) ++ rest ≡ entry_text e ++ (entries_text entries ++ rest)
first_entry_is e entries rest = append_assoc (entry_text e) (entries_text entries) rest

-- what follows some of the entries are the others
pub entries_rest : (es fs : List Entry) (t s : List ℕ) → All HasCosts es → All HasCosts fs → length (entries_text es ++ t) < 2 ^ 64 → length es ≤ length fs → entries_text es ++ t ≡ entries_text fs ++ s → (gs : List Entry) × (t ≡ entries_text gs ++ s) × (fs ≡ es ++ gs)
entries_rest [] fs t s left right short fewer is = (fs, is, refl)
entries_rest (e ∷ es) [] t s left right short fewer is = absurd (omega arith)
entries_rest (e ∷ es) (f ∷ fs) t s left right short fewer is =
    let all : length (entries_text (e ∷ es) ++ t) ≡ length (entry_text e ++ (entries_text es ++ t)) = ap length (first_entry_is e es t) in
    let sum : length (entry_text e ++ (entries_text es ++ t)) ≡ length (entry_text e) + length (entries_text es ++ t) = length-append (entry_text e) (entries_text es ++ t) in
    let one = one_entry e f _ _ (All-head HasCosts e es left) (All-head HasCosts f fs right) (omega arith) (rw (first_entry_is e es t, first_entry_is f fs s) at is) in
    let rest = entries_rest es fs t s (All-tail HasCosts e es left) (All-tail HasCosts f fs right) (omega arith) (omega arith) one.1 in
    (rest.0, rest.1, cons_same f e fs (es ++ rest.0) (sym one.0) rest.2)

-- where a line of costs but no line of values begins, no entry does
pub no_entry : (fault : LineFault) (old next new : List ℕ) (costs : List ℤ) → All IsCost costs → old ≡ costs_line costs ++ next → Reads model_line (λ _. Unit {0}) next new (Err fault) → Reads entry_text HasCosts old new (Err fault)
no_entry NoMemory old next new costs valid begun none = tt
no_entry Wrong old next new costs valid begun none = λ e rest right is.
    none e.model rest tt (one_costs_line costs e.costs next (model_line e.model ++ rest) valid right (sym begun ∙ is ∙ entry_lines_is e rest)).1
