-- The laws of texts: one list at most, and one fault at most.
use Rattle.std.proofs.Common.{◌≡◌, ◌≢◌, ◌⊎◌, inl, inr, ⊎_elim, ℕ, zero, suc, ◌+◌, ◌*◌, ◌<◌, ◌≤◌, ◌^◌, Bool, true, false, List, [], ◌∷◌, ◌++◌, length, refl, sym, ap, subst, ◌∙◌, arith, length-append}
use Rattle.std.specs.Prelude.{All, Some}
use Rattle.std.specs.Fmt.{decimal}
use Rattle.std.proofs.lemmas.Bool.{cases_order, cases_lt}
use Rattle.std.proofs.lemmas.List.{append_assoc, append-nil}
use Rattle.std.proofs.lemmas.List.Elements.{All-nil, All-head, All-same}
use Rattle.scut_base.specs.Number.{natural_value}
use Rattle.front_set.specs.declared.entry.Entry.{Entry}
use Rattle.front_set.specs.ListText.{head_line, entry_text, list_text}
use Rattle.front_text.specs.Spelling.{HasCosts, Spells, BeginsWith, IsFaultOf, NoEntryAt, GoesWrongAfter, IsSyntaxAt, head_with}
use Rattle.front_text.specs.declared.list.ListFault.{ListFault}
use Rattle.front_text.specs.declared.list.ListFault.TheVariants.{Syntax, NoMemory}
use Rattle.front_text.specs.declared.head.Head.{Head}
use Rattle.front_text.specs.Reading.{counted, TakesHead, TakesEntries, IsEntryFault}
use Rattle.front_text.proofs.Parts.{All-back}
use Rattle.front_text.proofs.Numbers.{decimal_is_count, value_of_decimal, count_is_decimal}
use Rattle.front_text.proofs.Entries.{entries_text, entries_length, entries_rest}
use Rattle.front_text.proofs.Heads.{one_head}

pub head_line_is : (complete : Bool) (n : ℕ) → head_line complete n ≡ head_with complete (decimal n)
head_line_is true n = refl
head_line_is false n = refl

tail_short : (head t : List ℕ) → length (head ++ t) < 2 ^ 64 → length t < 2 ^ 64
tail_short head t short = let sum : length (head ++ t) ≡ length head + length t = length-append head t in omega arith

-- a list's text begins with all its entries, and nothing follows
pub begins_whole : (text : List ℕ) (complete : Bool) (entries : List Entry) → length entries < 2 ^ 64 → Spells text complete entries → BeginsWith text (length entries) entries []
begins_whole text complete entries few spelled = record {
  complete = complete;
  digits = decimal (length entries);
  head = decimal_is_count (length entries) few;
  value = value_of_decimal (length entries) few;
  costs = spelled.costs;
  is = spelled.is ∙ ap (λ h. h ++ entries_text entries) (head_line_is complete (length entries)) ∙ ap (λ t. head_with complete (decimal (length entries)) ++ t) (sym (append-nil (entries_text entries)));
}

pub few_entries : (text : List ℕ) (complete : Bool) (entries : List Entry) → length text < 2 ^ 64 → Spells text complete entries → length entries < 2 ^ 64
few_entries text complete entries short spelled =
    let same : length text ≡ length (list_text complete entries) = ap length spelled.is in
    let sum : length (list_text complete entries) ≡ length (head_line complete (length entries)) + length (entries_text entries) = length-append (head_line complete (length entries)) (entries_text entries) in
    let many : 5 * length entries ≤ length (entries_text entries) = entries_length entries in
    omega arith

-- two ways to begin have one head line
pub record OneHead (m n : ℕ) (b c : Bool) (es fs : List Entry) (r s : List ℕ) : Type 0 where
  pub count : m ≡ n
  pub kind : b ≡ c
  pub rest : entries_text es ++ r ≡ entries_text fs ++ s
  pub short : length (entries_text es ++ r) < 2 ^ 64

pub begins_once : (text : List ℕ) (m n : ℕ) (es fs : List Entry) (r s : List ℕ) → length text < 2 ^ 64 → (left : BeginsWith text m es r) → (right : BeginsWith text n fs s) → OneHead m n left.complete right.complete es fs r s
begins_once text m n es fs r s short left right =
    let one = one_head left.complete right.complete left.digits right.digits _ _ left.head right.head (sym left.is ∙ right.is) in
    record {
      count = sym left.value ∙ ap natural_value one.1 ∙ right.value;
      kind = one.0;
      rest = one.2;
      short = tail_short (head_with left.complete left.digits) _ (subst (λ (t : List ℕ). length t < 2 ^ 64) left.is short);
    }

-- fewer entries that begin a text are some of more
pub others : (text : List ℕ) (m n : ℕ) (es fs : List Entry) (r s : List ℕ) → length text < 2 ^ 64 → BeginsWith text m es r → BeginsWith text n fs s → length es ≤ length fs → (gs : List Entry) × (r ≡ entries_text gs ++ s) × (fs ≡ es ++ gs)
others text m n es fs r s short left right fewer =
    let one = begins_once text m n es fs r s short left right in
    entries_rest es fs r s left.costs right.costs one.short fewer one.rest

-- ---- one list

pub one_list_of : (text : List ℕ) (b c : Bool) (es fs : List Entry) → length text < 2 ^ 64 → Spells text b es → Spells text c fs → (b ≡ c) × (es ≡ fs)
unfolding begins_whole
one_list_of text b c es fs short left right =
    let l = begins_whole text b es (few_entries text b es short left) left in
    let r = begins_whole text c fs (few_entries text c fs short right) right in
    let one = begins_once text _ _ es fs [] [] short l r in
    let same : length es ≡ length fs = one.count in
    let more = others text _ _ es fs [] [] short l r (omega arith) in
    (one.kind, all more.0 more.2 same)
  where
    all : (gs : List Entry) → fs ≡ es ++ gs → length es ≡ length fs → es ≡ fs
    all [] is same = sym (is ∙ append-nil es)
    all (g ∷ gs) is same =
        let long : length fs ≡ length (es ++ g ∷ gs) = ap length is in
        let sum : length (es ++ g ∷ gs) ≡ length es + length (g ∷ gs) = length-append es (g ∷ gs) in
        absurd (omega arith)

-- ---- one fault

-- a text that goes wrong after k entries begins with no more of those that it counts, and doesn't end there
no_more : (text : List ℕ) (k n : ℕ) (fs : List Entry) (s : List ℕ) → length text < 2 ^ 64 → GoesWrongAfter text k → BeginsWith text n fs s → k < length fs → length fs ≤ n → ⊥
no_more text k n fs s short wrong right more within =
    let left = wrong.begins in
    let same : wrong.count ≡ n = (begins_once text wrong.count n wrong.entries fs wrong.rest s short left right).count in
    let size : length wrong.entries ≡ k = wrong.right in
    let rest = others text wrong.count n wrong.entries fs wrong.rest s short left right (omega arith) in
    by rest.0 rest.1 rest.2 wrong.wrong (omega arith)
  where
    by : (gs : List Entry) → wrong.rest ≡ entries_text gs ++ s → fs ≡ wrong.entries ++ gs → ((k < wrong.count) × NoEntryAt wrong.rest) ⊎ ((k ≡ wrong.count) × (wrong.rest ≢ [])) → k < wrong.count → ⊥
    by gs rest all (inr full) few = let same : k ≡ wrong.count = full.0 in omega arith
    by [] rest all (inl missing) few =
        let long : length fs ≡ length (wrong.entries ++ []) = ap length all in
        let sum : length (wrong.entries ++ []) ≡ length wrong.entries = ap length (append-nil wrong.entries) in
        let size : length wrong.entries ≡ k = wrong.right in
        omega arith
    by (g ∷ gs) rest all (inl missing) few =
        let costs : All HasCosts (wrong.entries ++ g ∷ gs) = All-same HasCosts _ _ (sym all) right.costs in
        missing.1 g (entries_text gs ++ s) (All-head HasCosts g gs (All-back HasCosts wrong.entries (g ∷ gs) costs)) (rest ∙ append_assoc (entry_text g) (entries_text gs) s)

-- where all are there that are counted, no more text follows
no_text : (text : List ℕ) (k n : ℕ) (fs : List Entry) (s : List ℕ) → length text < 2 ^ 64 → GoesWrongAfter text k → BeginsWith text n fs s → length fs ≡ n → k ≡ n → s ≡ [] → ⊥
no_text text k n fs s short wrong right full last none =
    let size : length wrong.entries ≡ k = wrong.right in
    let same : wrong.count ≡ n = (begins_once text wrong.count n wrong.entries fs wrong.rest s short wrong.begins right).count in
    let rest = others text wrong.count n wrong.entries fs wrong.rest s short wrong.begins right (omega arith) in
    by rest.0 rest.1 rest.2 wrong.wrong
  where
    by : (gs : List Entry) → wrong.rest ≡ entries_text gs ++ s → fs ≡ wrong.entries ++ gs → ((k < wrong.count) × NoEntryAt wrong.rest) ⊎ ((k ≡ wrong.count) × (wrong.rest ≢ [])) → ⊥
    by gs rest all (inl missing) =
        let few : k < wrong.count = missing.0 in
        let same : wrong.count ≡ n = (begins_once text wrong.count n wrong.entries fs wrong.rest s short wrong.begins right).count in
        omega arith
    by [] rest all (inr more) = more.1 (rest ∙ none)
    by (g ∷ gs) rest all (inr more) =
        let long : length fs ≡ length (wrong.entries ++ g ∷ gs) = ap length all in
        let sum : length (wrong.entries ++ g ∷ gs) ≡ length wrong.entries + length (g ∷ gs) = length-append wrong.entries (g ∷ gs) in
        let size : length wrong.entries ≡ k = wrong.right in
        omega arith

-- it counts as many entries at least as are right
counted_at_most : (text : List ℕ) (k : ℕ) → (wrong : GoesWrongAfter text k) → k ≤ wrong.count
counted_at_most text k wrong = by wrong.wrong
  where
    by : ((k < wrong.count) × NoEntryAt wrong.rest) ⊎ ((k ≡ wrong.count) × (wrong.rest ≢ [])) → k ≤ wrong.count
    by (inl missing) = let few : k < wrong.count = missing.0 in omega arith
    by (inr more) = let same : k ≡ wrong.count = more.0 in omega arith

-- a text that begins with entries begins with a head line
begins_none : (text : List ℕ) (n : ℕ) (es : List Entry) (r : List ℕ) → BeginsWith text n es r → BeginsWith text n [] (entries_text es ++ r)
begins_none text n es r begins = record { complete = begins.complete; digits = begins.digits; head = begins.head; value = begins.value; costs = All-nil HasCosts; is = begins.is }

-- a list's text goes wrong nowhere
pub right_everywhere : (text : List ℕ) (complete : Bool) (entries : List Entry) (k : ℕ) → length text < 2 ^ 64 → Spells text complete entries → IsSyntaxAt text k → ⊥
right_everywhere text complete entries zero short spelled wrong =
    let whole = begins_whole text complete entries (few_entries text complete entries short spelled) spelled in
    wrong (length entries) (entries_text entries ++ []) (begins_none text _ entries [] whole)
right_everywhere text complete entries (suc k) short spelled wrong =
    let whole = begins_whole text complete entries (few_entries text complete entries short spelled) spelled in
    let same : wrong.count ≡ length entries = (begins_once text _ _ _ entries _ [] short wrong.begins whole).count in
    let within : k ≤ wrong.count = counted_at_most text k wrong in
    ⊎_elim (λ (less : k < length entries). no_more text k (length entries) entries [] short wrong whole less (omega arith))
    (λ (not_less : length entries ≤ k). no_text text k (length entries) entries [] short wrong whole refl (omega arith) refl)
    (cases_lt k (length entries))

-- two places of one text
not_before : (text : List ℕ) (j k : ℕ) → length text < 2 ^ 64 → GoesWrongAfter text j → GoesWrongAfter text k → j < k → ⊥
not_before text j k short left right before =
    let within : k ≤ right.count = counted_at_most text k right in
    let size : length right.entries ≡ k = right.right in
    no_more text j right.count right.entries right.rest short left right.begins (omega arith) (omega arith)

pub one_fault_of : (text : List ℕ) (j k : ℕ) → length text < 2 ^ 64 → IsSyntaxAt text j → IsSyntaxAt text k → j ≡ k
one_fault_of text zero zero short left right = refl
one_fault_of text zero (suc k) short left right = absurd (left right.count _ (begins_none text right.count right.entries right.rest right.begins))
one_fault_of text (suc j) zero short left right = absurd (right left.count _ (begins_none text left.count left.entries left.rest left.begins))
one_fault_of text (suc j) (suc k) short left right =
    ⊎_elim (λ (e : j ≡ k). ap suc e)
    (λ (h : (j < k) ⊎ (k < j)). ⊎_elim (λ (less : j < k). absurd (not_before text j k short left right less)) (λ (more : k < j). absurd (not_before text k j short right left more)) h)
    (cases_order j k)

-- ---- the reader

-- what is wrong with the entries is wrong with the text
pub entry_fault : (text rest : List ℕ) (head : Head) (fault : ListFault) → TakesHead text rest (Some head) → IsEntryFault rest head.count fault → IsFaultOf text fault
entry_fault text rest head NoMemory taken wrong = tt
entry_fault text rest head (Syntax k) taken stops =
    let entries = stops.entries in
    let place : suc (length entries) ≡ k = add_one (length entries) ∙ stops.place in
    subst (IsSyntaxAt text) place (record {
      count = natural_value taken.0;
      entries = entries;
      rest = stops.rest;
      begins = record {
        complete = head.complete;
        digits = taken.0;
        head = taken.1;
        value = refl;
        costs = stops.taken.costs;
        is = taken.3 ∙ ap (λ t. head_with head.complete taken.0 ++ t) stops.taken.is;
      };
      right = refl;
      wrong = inl (fewer, stops.wrong);
    })
  where
    add_one : (n : ℕ) → suc n ≡ n + 1
    add_one n = omega arith

    fewer : length stops.entries < natural_value taken.0
    fewer = let less : length stops.entries < head.count = stops.fewer in let count : head.count ≡ counted taken.0 = taken.2 in omega arith

-- no text has 2^64 - 1 entries, so that a count that is reached is the one that the digits spell
exact_count : (text rest new : List ℕ) (head : Head) (entries : List Entry) → length text < 2 ^ 64 → (taken : TakesHead text rest (Some head)) → TakesEntries rest new entries → length entries ≡ head.count → natural_value taken.0 ≡ length entries
exact_count text rest new head entries short taken all reached =
    let whole : length text ≡ length (head_with head.complete taken.0 ++ rest) = ap length taken.3 in
    let parts : length (head_with head.complete taken.0 ++ rest) ≡ length (head_with head.complete taken.0) + length rest = length-append (head_with head.complete taken.0) rest in
    let inner : length rest ≡ length (entries_text entries ++ new) = ap length all.is in
    let sum : length (entries_text entries ++ new) ≡ length (entries_text entries) + length new = length-append (entries_text entries) new in
    let many : 5 * length entries ≤ length (entries_text entries) = entries_length entries in
    let count : head.count ≡ counted taken.0 = taken.2 in
    omega arith

-- a head line and as many entries are the text of a list
pub spelled_whole : (text rest new : List ℕ) (head : Head) (entries : List Entry) → length text < 2 ^ 64 → TakesHead text rest (Some head) → TakesEntries rest new entries → length entries ≡ head.count → new ≡ [] → Spells text head.complete entries
spelled_whole text rest new head entries short taken all reached ended =
    let value : natural_value taken.0 ≡ length entries = exact_count text rest new head entries short taken all reached in
    let count : head.count ≡ counted taken.0 = taken.2 in
    let digits : taken.0 ≡ decimal (length entries) = count_is_decimal taken.0 taken.1 (omega arith) ∙ ap decimal value in
    record {
      is = taken.3
          ∙ ap (λ ds. head_with head.complete ds ++ rest) digits
          ∙ ap (λ h. h ++ rest) (sym (head_line_is head.complete (length entries)))
          ∙ ap (λ t. head_line head.complete (length entries) ++ t) (all.is ∙ ap (λ t. entries_text entries ++ t) ended ∙ append-nil (entries_text entries));
      costs = all.costs;
    }

-- where as many are there as are counted and more text follows, the text goes wrong after them
pub more_text : (text rest new : List ℕ) (head : Head) (entries : List Entry) → length text < 2 ^ 64 → TakesHead text rest (Some head) → TakesEntries rest new entries → length entries ≡ head.count → (new ≡ [] → ⊥) → IsSyntaxAt text (head.count + 1)
more_text text rest new head entries short taken all reached more =
    let value : natural_value taken.0 ≡ length entries = exact_count text rest new head entries short taken all reached in
    let place : suc (length entries) ≡ head.count + 1 = omega arith in
    subst (IsSyntaxAt text) place (record {
      count = length entries;
      entries = entries;
      rest = new;
      begins = record {
        complete = head.complete;
        digits = taken.0;
        head = taken.1;
        value = value;
        costs = all.costs;
        is = taken.3 ∙ ap (λ t. head_with head.complete taken.0 ++ t) all.is;
      };
      right = refl;
      wrong = inr (refl, more);
    })

-- ---- print and read

pub read_as_printed : (text : List ℕ) (complete : Bool) (entries : List Entry) (fault : ListFault) → length text < 2 ^ 64 → Spells text complete entries → IsFaultOf text fault → fault ≡ NoMemory
read_as_printed text complete entries NoMemory short spelled wrong = refl
read_as_printed text complete entries (Syntax k) short spelled wrong = absurd (right_everywhere text complete entries k short spelled wrong)
