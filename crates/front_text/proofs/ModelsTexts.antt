-- The laws of texts: one sequence of entries at most, and one fault at most.
use Rattle.std.proofs.Common.{◌≡◌, ◌≢◌, ◌⊎◌, inl, inr, ⊎_elim, ℕ, zero, suc, ◌+◌, ◌*◌, ◌<◌, ◌≤◌, ◌^◌, List, [], ◌∷◌, ◌++◌, length, refl, sym, ap, subst, ◌∙◌, arith, length-append}
use Rattle.std.specs.Prelude.{Some}
use Rattle.std.specs.Fmt.{decimal}
use Rattle.std.proofs.lemmas.Bool.{cases_order, cases_lt}
use Rattle.std.proofs.lemmas.List.{append_assoc, append-nil}
use Rattle.scut_base.specs.Number.{natural_value}
use Rattle.front_text.specs.Reading.{counted}
use Rattle.front_text.proofs.Numbers.{decimal_is_count, value_of_decimal, count_is_decimal}
use Rattle.front_text.specs.ModelsText.{head_line, entry_text, models_text}
use Rattle.front_text.specs.ModelsSpelling.{BeginsWith, IsFaultOf, NoEntryAt, GoesWrongAfter, IsSyntaxAt, head_with}
use Rattle.front_text.specs.ModelsReading.{TakesHead, TakesEntries, IsEntryFault}
use Rattle.front_text.specs.declared.reps.ModelsFault.{ModelsFault}
use Rattle.front_text.specs.declared.reps.ModelsFault.TheVariants.{Syntax, NoMemory}
use Rattle.front_text.specs.declared.reps.Reps.{Reps}
use Rattle.front_text.proofs.ModelsHeads.{one_head}
use Rattle.front_text.proofs.ModelsEntries.{entries_text, entries_length, entries_rest, tail_short}

-- a text of models begins with all its entries, and nothing follows
begins_whole : (text : List ℕ) (entries : List Reps) → length entries < 2 ^ 64 → text ≡ models_text entries → BeginsWith text (length entries) entries []
begins_whole text entries few is = record {
  digits = decimal (length entries);
  head = decimal_is_count (length entries) few;
  value = value_of_decimal (length entries) few;
  is = is ∙ ap (λ t. head_with (decimal (length entries)) ++ t) (sym (append-nil (entries_text entries)));
}

few_entries : (entries : List Reps) → length (models_text entries) < 2 ^ 64 → length entries < 2 ^ 64
few_entries entries short =
    let sum : length (models_text entries) ≡ length (head_line (length entries)) + length (entries_text entries) = length-append (head_line (length entries)) (entries_text entries) in
    let many : 5 * length entries ≤ length (entries_text entries) = entries_length entries in
    omega arith

-- two ways to begin have one first line
record OneHead (m n : ℕ) (es fs : List Reps) (r s : List ℕ) : Type 0 where
  pub count : m ≡ n
  pub rest : entries_text es ++ r ≡ entries_text fs ++ s
  pub short : length (entries_text es ++ r) < 2 ^ 64

begins_once : (text : List ℕ) (m n : ℕ) (es fs : List Reps) (r s : List ℕ) → length text < 2 ^ 64 → BeginsWith text m es r → BeginsWith text n fs s → OneHead m n es fs r s
begins_once text m n es fs r s short left right =
    let one = one_head left.digits right.digits _ _ left.head right.head (sym left.is ∙ right.is) in
    record {
      count = sym left.value ∙ ap natural_value one.0 ∙ right.value;
      rest = one.1;
      short = tail_short (head_with left.digits) _ (subst (λ (t : List ℕ). length t < 2 ^ 64) left.is short);
    }

-- fewer entries that begin a text are some of more
others : (text : List ℕ) (m n : ℕ) (es fs : List Reps) (r s : List ℕ) → length text < 2 ^ 64 → BeginsWith text m es r → BeginsWith text n fs s → length es ≤ length fs → (gs : List Reps) × (r ≡ entries_text gs ++ s) × (fs ≡ es ++ gs)
others text m n es fs r s short left right fewer =
    let one = begins_once text m n es fs r s short left right in
    entries_rest es fs r s one.short fewer one.rest

-- ---- one text

pub one_text_of : (es fs : List Reps) → length (models_text es) < 2 ^ 64 → models_text es ≡ models_text fs → es ≡ fs
one_text_of es fs short is =
    let text = models_text es in
    let long : length text ≡ length (models_text fs) = ap length is in
    let l = begins_whole text es (few_entries es short) refl in
    let r = begins_whole text fs (few_entries fs (omega arith)) is in
    let one = begins_once text _ _ es fs [] [] short l r in
    let same : length es ≡ length fs = one.count in
    let more = others text _ _ es fs [] [] short l r (omega arith) in
    all more.0 more.2 same
  where
    all : (gs : List Reps) → fs ≡ es ++ gs → length es ≡ length fs → es ≡ fs
    all [] is same = sym (is ∙ append-nil es)
    all (g ∷ gs) is same =
        let long : length fs ≡ length (es ++ g ∷ gs) = ap length is in
        let sum : length (es ++ g ∷ gs) ≡ length es + length (g ∷ gs) = length-append es (g ∷ gs) in
        absurd (omega arith)

-- ---- one fault

-- a text that goes wrong after k entries begins with no more of those that it counts, and doesn't end there
no_more : (text : List ℕ) (k n : ℕ) (fs : List Reps) (s : List ℕ) → length text < 2 ^ 64 → GoesWrongAfter text k → BeginsWith text n fs s → k < length fs → length fs ≤ n → ⊥
no_more text k n fs s short wrong right more within =
    let left = wrong.begins in
    let same : wrong.count ≡ n = (begins_once text wrong.count n wrong.entries fs wrong.rest s short left right).count in
    let size : length wrong.entries ≡ k = wrong.right in
    let rest = others text wrong.count n wrong.entries fs wrong.rest s short left right (omega arith) in
    by rest.0 rest.1 rest.2 wrong.wrong (omega arith)
  where
    by : (gs : List Reps) → wrong.rest ≡ entries_text gs ++ s → fs ≡ wrong.entries ++ gs → ((k < wrong.count) × NoEntryAt wrong.rest) ⊎ ((k ≡ wrong.count) × (wrong.rest ≢ [])) → k < wrong.count → ⊥
    by gs rest all (inr full) few = let same : k ≡ wrong.count = full.0 in omega arith
    by [] rest all (inl missing) few =
        let long : length fs ≡ length (wrong.entries ++ []) = ap length all in
        let sum : length (wrong.entries ++ []) ≡ length wrong.entries = ap length (append-nil wrong.entries) in
        let size : length wrong.entries ≡ k = wrong.right in
        omega arith
    by (g ∷ gs) rest all (inl missing) few = missing.1 g (entries_text gs ++ s) (rest ∙ append_assoc (entry_text g) (entries_text gs) s)

-- where all are there that are counted, no more text follows
no_text : (text : List ℕ) (k n : ℕ) (fs : List Reps) (s : List ℕ) → length text < 2 ^ 64 → GoesWrongAfter text k → BeginsWith text n fs s → length fs ≡ n → k ≡ n → s ≡ [] → ⊥
no_text text k n fs s short wrong right full last none =
    let size : length wrong.entries ≡ k = wrong.right in
    let same : wrong.count ≡ n = (begins_once text wrong.count n wrong.entries fs wrong.rest s short wrong.begins right).count in
    let rest = others text wrong.count n wrong.entries fs wrong.rest s short wrong.begins right (omega arith) in
    by rest.0 rest.1 rest.2 wrong.wrong
  where
    by : (gs : List Reps) → wrong.rest ≡ entries_text gs ++ s → fs ≡ wrong.entries ++ gs → ((k < wrong.count) × NoEntryAt wrong.rest) ⊎ ((k ≡ wrong.count) × (wrong.rest ≢ [])) → ⊥
    by gs rest all (inl missing) =
        let few : k < wrong.count = missing.0 in
        let same : wrong.count ≡ n = (begins_once text wrong.count n wrong.entries fs wrong.rest s short wrong.begins right).count in
        omega arith
    by [] rest all (inr more) = more.1 (rest ∙ none)
    by (g ∷ gs) rest all (inr more) =
        let long : length fs ≡ length (wrong.entries ++ g ∷ gs) = ap length all in
        let sum : length (wrong.entries ++ g ∷ gs) ≡ length wrong.entries + length (g ∷ gs) = length-append wrong.entries (g ∷ gs) in
        let size : length wrong.entries ≡ k = wrong.right in
        omega arith

-- it counts as many entries at least as are right
counted_at_most : (text : List ℕ) (k : ℕ) → (wrong : GoesWrongAfter text k) → k ≤ wrong.count
counted_at_most text k wrong = by wrong.wrong
  where
    by : ((k < wrong.count) × NoEntryAt wrong.rest) ⊎ ((k ≡ wrong.count) × (wrong.rest ≢ [])) → k ≤ wrong.count
    by (inl missing) = let few : k < wrong.count = missing.0 in omega arith
    by (inr more) = let same : k ≡ wrong.count = more.0 in omega arith

-- a text that begins with entries begins with a first line
begins_none : (text : List ℕ) (n : ℕ) (es : List Reps) (r : List ℕ) → BeginsWith text n es r → BeginsWith text n [] (entries_text es ++ r)
begins_none text n es r begins = record { digits = begins.digits; head = begins.head; value = begins.value; is = begins.is }

-- a text of models goes wrong nowhere
pub right_everywhere : (entries : List Reps) (k : ℕ) → length (models_text entries) < 2 ^ 64 → IsSyntaxAt (models_text entries) k → ⊥
right_everywhere entries zero short wrong =
    let whole = begins_whole (models_text entries) entries (few_entries entries short) refl in
    wrong (length entries) (entries_text entries ++ []) (begins_none (models_text entries) _ entries [] whole)
right_everywhere entries (suc k) short wrong =
    let text = models_text entries in
    let whole = begins_whole text entries (few_entries entries short) refl in
    let same : wrong.count ≡ length entries = (begins_once text _ _ _ entries _ [] short wrong.begins whole).count in
    let within : k ≤ wrong.count = counted_at_most text k wrong in
    ⊎_elim (λ (less : k < length entries). no_more text k (length entries) entries [] short wrong whole less (omega arith))
    (λ (not_less : length entries ≤ k). no_text text k (length entries) entries [] short wrong whole refl (omega arith) refl)
    (cases_lt k (length entries))

-- two places of one text
not_before : (text : List ℕ) (j k : ℕ) → length text < 2 ^ 64 → GoesWrongAfter text j → GoesWrongAfter text k → j < k → ⊥
not_before text j k short left right before =
    let within : k ≤ right.count = counted_at_most text k right in
    let size : length right.entries ≡ k = right.right in
    no_more text j right.count right.entries right.rest short left right.begins (omega arith) (omega arith)

pub one_fault_of : (text : List ℕ) (j k : ℕ) → length text < 2 ^ 64 → IsSyntaxAt text j → IsSyntaxAt text k → j ≡ k
one_fault_of text zero zero short left right = refl
one_fault_of text zero (suc k) short left right = absurd (left right.count _ (begins_none text right.count right.entries right.rest right.begins))
one_fault_of text (suc j) zero short left right = absurd (right left.count _ (begins_none text left.count left.entries left.rest left.begins))
one_fault_of text (suc j) (suc k) short left right =
    ⊎_elim (λ (e : j ≡ k). ap suc e)
    (λ (h : (j < k) ⊎ (k < j)). ⊎_elim (λ (less : j < k). absurd (not_before text j k short left right less)) (λ (more : k < j). absurd (not_before text k j short right left more)) h)
    (cases_order j k)

-- ---- the reader

-- what follows the first line is short
pub rest_short : (text rest : List ℕ) (count : ℕ) → length text < 2 ^ 64 → TakesHead text rest (Some count) → length rest < 2 ^ 64
rest_short text rest count short taken = tail_short (head_with taken.0) rest (subst (λ (t : List ℕ). length t < 2 ^ 64) taken.3 short)

-- what is wrong with the entries is wrong with the text
pub entry_fault : (text rest : List ℕ) (count : ℕ) (fault : ModelsFault) → TakesHead text rest (Some count) → IsEntryFault rest count fault → IsFaultOf text fault
entry_fault text rest count NoMemory taken wrong = tt
entry_fault text rest count (Syntax k) taken stops =
    let entries = stops.entries in
    let place : suc (length entries) ≡ k = add_one (length entries) ∙ stops.place in
    subst (IsSyntaxAt text) place (record {
      count = natural_value taken.0;
      entries = entries;
      rest = stops.rest;
      begins = record {
        digits = taken.0;
        head = taken.1;
        value = refl;
        is = taken.3 ∙ ap (λ t. head_with taken.0 ++ t) stops.taken;
      };
      right = refl;
      wrong = inl (fewer, stops.wrong);
    })
  where
    add_one : (n : ℕ) → suc n ≡ n + 1
    add_one n = omega arith

    fewer : length stops.entries < natural_value taken.0
    fewer = let less : length stops.entries < count = stops.fewer in let value : count ≡ counted taken.0 = taken.2 in omega arith

-- no text has 2^64 - 1 entries, so that a count that is reached is the one that the digits spell
exact_count : (text rest new : List ℕ) (count : ℕ) (entries : List Reps) → length text < 2 ^ 64 → (taken : TakesHead text rest (Some count)) → TakesEntries rest new entries → length entries ≡ count → natural_value taken.0 ≡ length entries
exact_count text rest new count entries short taken all reached =
    let whole : length text ≡ length (head_with taken.0 ++ rest) = ap length taken.3 in
    let parts : length (head_with taken.0 ++ rest) ≡ length (head_with taken.0) + length rest = length-append (head_with taken.0) rest in
    let inner : length rest ≡ length (entries_text entries ++ new) = ap length all in
    let sum : length (entries_text entries ++ new) ≡ length (entries_text entries) + length new = length-append (entries_text entries) new in
    let many : 5 * length entries ≤ length (entries_text entries) = entries_length entries in
    let value : count ≡ counted taken.0 = taken.2 in
    omega arith

-- a first line and as many entries are a text of models
pub spelled_whole : (text rest new : List ℕ) (count : ℕ) (entries : List Reps) → length text < 2 ^ 64 → TakesHead text rest (Some count) → TakesEntries rest new entries → length entries ≡ count → new ≡ [] → text ≡ models_text entries
spelled_whole text rest new count entries short taken all reached ended =
    let exact : natural_value taken.0 ≡ length entries = exact_count text rest new count entries short taken all reached in
    let value : count ≡ counted taken.0 = taken.2 in
    let digits : taken.0 ≡ decimal (length entries) = count_is_decimal taken.0 taken.1 (omega arith) ∙ ap decimal exact in
    taken.3
    ∙ ap (λ ds. head_with ds ++ rest) digits
    ∙ ap (λ t. head_with (decimal (length entries)) ++ t) (all ∙ ap (λ t. entries_text entries ++ t) ended ∙ append-nil (entries_text entries))

-- where as many are there as are counted and more text follows, the text goes wrong after them
pub more_text : (text rest new : List ℕ) (count : ℕ) (entries : List Reps) → length text < 2 ^ 64 → TakesHead text rest (Some count) → TakesEntries rest new entries → length entries ≡ count → (new ≡ [] → ⊥) → IsSyntaxAt text (count + 1)
more_text text rest new count entries short taken all reached more =
    let value : natural_value taken.0 ≡ length entries = exact_count text rest new count entries short taken all reached in
    let place : suc (length entries) ≡ count + 1 = omega arith in
    subst (IsSyntaxAt text) place (record {
      count = length entries;
      entries = entries;
      rest = new;
      begins = record {
        digits = taken.0;
        head = taken.1;
        value = value;
        is = taken.3 ∙ ap (λ t. head_with taken.0 ++ t) all;
      };
      right = refl;
      wrong = inr (refl, more);
    })
