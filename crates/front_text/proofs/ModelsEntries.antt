-- A text begins with one sequence of so many models, and of so many entries, at most.
use Rattle.std.proofs.Common.{◌≡◌, ℕ, ◌+◌, ◌-◌, ◌*◌, ◌<◌, ◌≤◌, ◌^◌, Bool, true, false, List, [], ◌∷◌, ◌++◌, length, refl, sym, ap, subst, ◌∙◌, arith, length-append}
use Rattle.std.specs.Prelude.{Ok, Err, Some}
use Rattle.std.specs.List.{flat_map}
use Rattle.std.specs.Fmt.{decimal}
use Rattle.std.proofs.lemmas.List.{append_assoc, append-nil}
use Rattle.scut_base.specs.Number.{natural_value}
use Rattle.front_set.specs.ListText.{model_line}
use Rattle.front_text.specs.Reading.{BeginsWithNone, Reads, counted}
use Rattle.front_text.specs.Spelling.{IsCount}
use Rattle.front_text.specs.declared.entry.LineFault.{LineFault}
use Rattle.front_text.specs.declared.entry.LineFault.TheVariants.{Wrong, NoMemory}
use Rattle.front_text.proofs.Parts.{cons_same}
use Rattle.front_text.proofs.Models.{one_model_line, model_line_length}
use Rattle.front_text.proofs.Numbers.{decimal_is_count, value_of_decimal, count_is_decimal}
use Rattle.front_text.specs.ModelsText.{kind_line, entry_text}
use Rattle.front_text.specs.ModelsReading.{ReadsModels, TakesKind, kind_with}
use Rattle.front_text.specs.declared.models_head.Kind.{Kind}
use Rattle.front_text.specs.declared.reps.Reps.{Reps}
use Rattle.front_text.proofs.ModelsHeads.{one_kind_line}

pub tail_short : (head t : List ℕ) → length (head ++ t) < 2 ^ 64 → length t < 2 ^ 64
tail_short head t short = let sum : length (head ++ t) ≡ length head + length t = length-append head t in omega arith

-- ---- models

abbrev pub lines_of : List (List Bool) → List ℕ
lines_of models = flat_map model_line models

-- each line takes four bytes at least
lines_length : (ms : List (List Bool)) → 4 * length ms ≤ length (lines_of ms)
lines_length [] = omega arith
lines_length (m ∷ ms) =
    let rest : 4 * length ms ≤ length (lines_of ms) = lines_length ms in
    let one : length m + 4 ≤ length (model_line m) = model_line_length m in
    let sum : length (lines_of (m ∷ ms)) ≡ length (model_line m) + length (lines_of ms) = length-append (model_line m) (lines_of ms) in
    omega arith

-- the first model's line, and what follows it
first_line_is : (m : List Bool) (ms : List (List Bool)) (rest : List ℕ) → lines_of (m ∷ ms) ++ rest ≡ model_line m ++ (lines_of ms ++ rest)
first_line_is m ms rest = append_assoc (model_line m) (lines_of ms) rest

-- what follows the lines of some of the models are those of the others
lines_rest : (ms ns : List (List Bool)) (t s : List ℕ) → length (lines_of ms ++ t) < 2 ^ 64 → length ms ≤ length ns → lines_of ms ++ t ≡ lines_of ns ++ s → (os : List (List Bool)) × (t ≡ lines_of os ++ s) × (ns ≡ ms ++ os)
lines_rest [] ns t s short fewer is = (ns, is, refl)
lines_rest (m ∷ ms) [] t s short fewer is = absurd (omega arith)
lines_rest (m ∷ ms) (n ∷ ns) t s short fewer is =
    let all : length (lines_of (m ∷ ms) ++ t) ≡ length (model_line m ++ (lines_of ms ++ t)) = ap length (first_line_is m ms t) in
    let sum : length (model_line m ++ (lines_of ms ++ t)) ≡ length (model_line m) + length (lines_of ms ++ t) = length-append (model_line m) (lines_of ms ++ t) in
    let long : length m + 4 ≤ length (model_line m) = model_line_length m in
    let one = one_model_line m n (lines_of ms ++ t) (lines_of ns ++ s) (omega arith) (sym (first_line_is m ms t) ∙ is ∙ first_line_is n ns s) in
    let rest = lines_rest ms ns t s (omega arith) (omega arith) one.1 in
    (rest.0, rest.1, cons_same n m ns (ms ++ rest.0) (sym one.0) rest.2)

-- as many models are the same ones
lines_once : (ms ns : List (List Bool)) (t s : List ℕ) → length (lines_of ms ++ t) < 2 ^ 64 → length ms ≡ length ns → lines_of ms ++ t ≡ lines_of ns ++ s → (ms ≡ ns) × (t ≡ s)
lines_once ms ns t s short same is =
    let rest = lines_rest ms ns t s short (omega arith) is in
    by rest.0 rest.1 rest.2
  where
    by : (os : List (List Bool)) → t ≡ lines_of os ++ s → ns ≡ ms ++ os → (ms ≡ ns) × (t ≡ s)
    by [] follows all = (sym (all ∙ append-nil ms), follows)
    by (o ∷ os) follows all =
        let long : length ns ≡ length (ms ++ o ∷ os) = ap length all in
        let sum : length (ms ++ o ∷ os) ≡ length ms + length (o ∷ os) = length-append ms (o ∷ os) in
        absurd (omega arith)

-- where some of the models stand and no line of a next one does, no more of them stand there
no_more_lines : (old here : List ℕ) (ms : List (List Bool)) (count : ℕ) → length old < 2 ^ 64 → old ≡ lines_of ms ++ here → length ms < count → BeginsWithNone model_line (λ _. Unit {0}) here → (models : List (List Bool)) (rest : List ℕ) → length models ≡ count → old ≡ lines_of models ++ rest → ⊥
no_more_lines old here ms count short begun fewer none models rest size is =
    let whole : length old ≡ length (lines_of ms ++ here) = ap length begun in
    let other = lines_rest ms models here rest (omega arith) (omega arith) (sym begun ∙ is) in
    by other.0 other.1 other.2
  where
    by : (os : List (List Bool)) → here ≡ lines_of os ++ rest → models ≡ ms ++ os → ⊥
    by [] follows all =
        let long : length models ≡ length (ms ++ []) = ap length all in
        let sum : length (ms ++ []) ≡ length ms = ap length (append-nil ms) in
        omega arith
    by (o ∷ os) follows all = none o (lines_of os ++ rest) tt (follows ∙ first_line_is o os rest)

-- and so many aren't read
pub no_more_models : (old here new : List ℕ) (ms : List (List Bool)) (count : ℕ) (fault : LineFault) → length old < 2 ^ 64 → old ≡ lines_of ms ++ here → length ms < count → Reads model_line (λ _. Unit {0}) here new (Err fault) → ReadsModels count old new (Err fault)
no_more_models old here new ms count NoMemory short begun fewer none = tt
no_more_models old here new ms count Wrong short begun fewer none = no_more_lines old here ms count short begun fewer none

-- ---- entries

abbrev pub entries_text : List Reps → List ℕ
entries_text entries = flat_map entry_text entries

same_entry : (e f : Reps) → e.all ≡ f.all → e.models ≡ f.models → e ≡ f
same_entry e f all models =
    let made : Bool → List (List Bool) → Reps = λ a m. record { all = a; models = m } in
    ap (λ a. made a e.models) all ∙ ap (λ m. made f.all m) models

kind_line_is : (all : Bool) (n : ℕ) → kind_line all n ≡ kind_with all (decimal n)
kind_line_is true n = refl
kind_line_is false n = refl

kind_line_length : (all : Bool) (n : ℕ) → 5 ≤ length (kind_line all n)
kind_line_length true n = omega arith
kind_line_length false n = omega arith

-- five bytes at least, and four for each model
entry_length : (e : Reps) → 4 * length e.models + 5 ≤ length (entry_text e)
entry_length e =
    let models : 4 * length e.models ≤ length (lines_of e.models) = lines_length e.models in
    let kind : 5 ≤ length (kind_line e.all (length e.models)) = kind_line_length e.all (length e.models) in
    let sum : length (entry_text e) ≡ length (kind_line e.all (length e.models)) + length (lines_of e.models) = length-append (kind_line e.all (length e.models)) (lines_of e.models) in
    omega arith

pub entries_length : (entries : List Reps) → 5 * length entries ≤ length (entries_text entries)
entries_length [] = omega arith
entries_length (e ∷ entries) =
    let rest : 5 * length entries ≤ length (entries_text entries) = entries_length entries in
    let one : 4 * length e.models + 5 ≤ length (entry_text e) = entry_length e in
    let sum : length (entries_text (e ∷ entries)) ≡ length (entry_text e) + length (entries_text entries) = length-append (entry_text e) (entries_text entries) in
    omega arith

-- fewer models than there can be bytes
few_models : (e : Reps) (rest : List ℕ) → length (entry_text e ++ rest) < 2 ^ 64 → length e.models < 2 ^ 64 - 1
few_models e rest short =
    let long : 4 * length e.models + 5 ≤ length (entry_text e) = entry_length e in
    let sum : length (entry_text e ++ rest) ≡ length (entry_text e) + length rest = length-append (entry_text e) rest in
    omega arith

-- the first line of an entry, and what follows it
entry_is : (e : Reps) (rest : List ℕ) → entry_text e ++ rest ≡ kind_with e.all (decimal (length e.models)) ++ (lines_of e.models ++ rest)
entry_is e rest = append_assoc (kind_line e.all (length e.models)) (lines_of e.models) rest ∙ ap (λ k. k ++ (lines_of e.models ++ rest)) (kind_line_is e.all (length e.models))

one_entry : (e f : Reps) (r s : List ℕ) → length (entry_text e ++ r) < 2 ^ 64 → entry_text e ++ r ≡ entry_text f ++ s → (e ≡ f) × (r ≡ s)
one_entry e f r s short is =
    let same : length (entry_text e ++ r) ≡ length (entry_text f ++ s) = ap length is in
    let few : length e.models < 2 ^ 64 - 1 = few_models e r short in
    let few_too : length f.models < 2 ^ 64 - 1 = few_models f s (omega arith) in
    let kind = one_kind_line e.all f.all (decimal (length e.models)) (decimal (length f.models)) _ _ (decimal_is_count (length e.models) (omega arith)) (decimal_is_count (length f.models) (omega arith)) (sym (entry_is e r) ∙ is ∙ entry_is f s) in
    let size : length e.models ≡ length f.models = sym (value_of_decimal (length e.models) (omega arith)) ∙ ap natural_value kind.1 ∙ value_of_decimal (length f.models) (omega arith) in
    let left : length (lines_of e.models ++ r) < 2 ^ 64 = tail_short (kind_with e.all (decimal (length e.models))) (lines_of e.models ++ r) (subst (λ (t : List ℕ). length t < 2 ^ 64) (entry_is e r) short) in
    let models = lines_once e.models f.models r s left size kind.2 in
    (same_entry e f kind.0 models.0, models.1)

-- the first entry, and what follows it
first_entry_is : (e : Reps) (entries : List Reps) (rest : List ℕ) → entries_text (e ∷ entries) ++ rest ≡ entry_text e ++ (entries_text entries ++ rest)
first_entry_is e entries rest = append_assoc (entry_text e) (entries_text entries) rest

-- what follows some of the entries are the others
pub entries_rest : (es fs : List Reps) (t s : List ℕ) → length (entries_text es ++ t) < 2 ^ 64 → length es ≤ length fs → entries_text es ++ t ≡ entries_text fs ++ s → (gs : List Reps) × (t ≡ entries_text gs ++ s) × (fs ≡ es ++ gs)
entries_rest [] fs t s short fewer is = (fs, is, refl)
entries_rest (e ∷ es) [] t s short fewer is = absurd (omega arith)
entries_rest (e ∷ es) (f ∷ fs) t s short fewer is =
    let all : length (entries_text (e ∷ es) ++ t) ≡ length (entry_text e ++ (entries_text es ++ t)) = ap length (first_entry_is e es t) in
    let sum : length (entry_text e ++ (entries_text es ++ t)) ≡ length (entry_text e) + length (entries_text es ++ t) = length-append (entry_text e) (entries_text es ++ t) in
    let one = one_entry e f _ _ (omega arith) (sym (first_entry_is e es t) ∙ is ∙ first_entry_is f fs s) in
    let rest = entries_rest es fs t s (omega arith) (omega arith) one.1 in
    (rest.0, rest.1, cons_same f e fs (es ++ rest.0) (sym one.0) rest.2)

-- ---- the reader of an entry

-- where no first line of an entry begins, no entry does
pub no_entry_begins : (old : List ℕ) → length old < 2 ^ 64 → ((all : Bool) (digits rest : List ℕ) → IsCount digits → old ≡ kind_with all digits ++ rest → ⊥) → BeginsWithNone entry_text (λ _. Unit {0}) old
no_entry_begins old short none e rest valid is =
    let same : length old ≡ length (entry_text e ++ rest) = ap length is in
    let few : length e.models < 2 ^ 64 - 1 = few_models e rest (omega arith) in
    none e.all (decimal (length e.models)) (lines_of e.models ++ rest) (decimal_is_count (length e.models) (omega arith)) (is ∙ entry_is e rest)

-- where a first line begins but not as many models follow, no entry does
no_models_follow : (old next : List ℕ) (kind : Kind) → length old < 2 ^ 64 → TakesKind old next (Some kind) → ((models : List (List Bool)) (rest : List ℕ) → length models ≡ kind.count → next ≡ lines_of models ++ rest → ⊥) → BeginsWithNone entry_text (λ _. Unit {0}) old
no_models_follow old next kind short taken none e rest valid is =
    let same : length old ≡ length (entry_text e ++ rest) = ap length is in
    let few : length e.models < 2 ^ 64 - 1 = few_models e rest (omega arith) in
    let one = one_kind_line kind.all e.all taken.0 (decimal (length e.models)) next (lines_of e.models ++ rest) taken.1 (decimal_is_count (length e.models) (omega arith)) (sym taken.3 ∙ is ∙ entry_is e rest) in
    let size : natural_value taken.0 ≡ length e.models = ap natural_value one.1 ∙ value_of_decimal (length e.models) (omega arith) in
    let value : kind.count ≡ counted taken.0 = taken.2 in
    none e.models rest (omega arith) one.2

pub no_entry_read : (old next new : List ℕ) (kind : Kind) (fault : LineFault) → length old < 2 ^ 64 → TakesKind old next (Some kind) → ReadsModels kind.count next new (Err fault) → Reads entry_text (λ _. Unit {0}) old new (Err fault)
no_entry_read old next new kind NoMemory short taken none = tt
no_entry_read old next new kind Wrong short taken none = no_models_follow old next kind short taken none

-- a first line and as many models are an entry
pub entry_read : (old next new : List ℕ) (kind : Kind) (models : List (List Bool)) → length old < 2 ^ 64 → TakesKind old next (Some kind) → ReadsModels kind.count next new (Ok models) → old ≡ entry_text (record { all = kind.all; models = models }) ++ new
entry_read old next new kind models short taken read =
    let digits = taken.0 in
    let value : kind.count ≡ counted digits = taken.2 in
    let whole : length old ≡ length (kind_with kind.all digits ++ next) = ap length taken.3 in
    let parts : length (kind_with kind.all digits ++ next) ≡ length (kind_with kind.all digits) + length next = length-append (kind_with kind.all digits) next in
    let inner : length next ≡ length (lines_of models ++ new) = ap length read.1 in
    let sum : length (lines_of models ++ new) ≡ length (lines_of models) + length new = length-append (lines_of models) new in
    let many : 4 * length models ≤ length (lines_of models) = lines_length models in
    let size : length models ≡ kind.count = read.0 in
    let exact : natural_value digits ≡ length models = omega arith in
    let printed : digits ≡ decimal (length models) = count_is_decimal digits taken.1 (omega arith) ∙ ap decimal exact in
    taken.3 ∙ ap (λ ds. kind_with kind.all ds ++ next) printed ∙ ap (λ t. kind_with kind.all (decimal (length models)) ++ t) read.1 ∙ sym (entry_is (record { all = kind.all; models = models }) new)
