-- Marks of ids, and how many ids lines make.
use Rattle.std.proofs.Common.{◌≡◌, ◌≢◌, ℕ, zero, suc, ◌+◌, ◌-◌, ◌<◌, ◌≤◌, Bool, true, false, ◌||◌, nat_eq, nat_lt, if◌then◌else◌, List, [], ◌∷◌, ◌++◌, length, take, drop, fold, replicate, get_or, refl, sym, ap, ◌∙◌, arith, inl, inr}
use Rattle.std.specs.Prelude.{slice_set}
use Rattle.std.proofs.Math.Bool.{or_comm, or_assoc}
use Rattle.std.proofs.Math.Seq.{drop-cons}
use Rattle.std.proofs.lemmas.Bool.{cases_eq, eq-eqb, ne_eqb, lt-ltb, ltb-true}
use Rattle.std.proofs.lemmas.List.{length-replicate, length-set, get_or-set_same, get_or-set_other, get_or-replicate}
use Rattle.std.proofs.lemmas.List.Folds.{list_any-append}
use Rattle.proof_laws.specs.Steps.{made}
use Rattle.proof_laws.specs.declared.line.Line.{Line}
use Rattle.proof_laws.specs.declared.line.Line.TheVariants.{End}
use Rattle.command_trim.specs.Marks.{AreMarked, made_by, marked, named_if}
use Rattle.command_trim.specs.Trimmed.{ids_named, is_in, is_needed, needed, needed_ids}

-- ---- how many ids lines make

-- stands past the end of a list
abbrev pub no_line : Line
no_line = End 0

pub made_by_more : (lines : List Line) (i : ℕ) → i < length lines → made_by (take (suc i) lines) ≡ made_by (take i lines) + made (get_or lines i no_line)
made_by_more [] i short = absurd (omega (arith, short))
made_by_more (l ∷ ls) zero short = omega arith
made_by_more (l ∷ ls) (suc i) short = omega (arith, made_by_more ls i (omega (arith, short)))

pub made_by_part : (lines : List Line) (i : ℕ) → made_by (take i lines) ≤ made_by lines
made_by_part [] zero = omega arith
made_by_part [] (suc i) = omega arith
made_by_part (l ∷ ls) zero = omega arith
made_by_part (l ∷ ls) (suc i) = omega (arith, made_by_part ls i)

-- ---- marks

pub marked_length : (rows : ℕ) (marks : List Bool) (id : ℕ) → length (marked rows marks id) ≡ length marks
marked_length rows marks id = by_test (nat_lt rows id)
  where
    by_test : (b : Bool) → length (if b then slice_set marks (id - rows - 1) true else marks) ≡ length marks
    by_test true = length-set marks (id - rows - 1) true
    by_test false = refl

pub all_length : (rows : ℕ) (ids : List ℕ) (marks : List Bool) → length (fold (marked rows) marks ids) ≡ length marks
all_length rows [] marks = refl
all_length rows (x ∷ xs) marks = all_length rows xs (marked rows marks x) ∙ marked_length rows marks x

-- one more is marked
mark_here : (rows : ℕ) (marks : List Bool) (id : ℕ) (ids : List ℕ) → AreMarked rows marks ids → AreMarked rows (marked rows marks id) (id ∷ ids)
mark_here rows marks id ids are k short = by_row (nat_lt rows id) refl
  where
    within : k < length marks
    within = omega (arith, short, marked_length rows marks id)

    other : rows + 1 + k ≢ id → is_in (rows + 1 + k) ids ≡ (nat_eq (rows + 1 + k) id || is_in (rows + 1 + k) ids)
    other differs = sym (ap (λ (b : Bool). b || is_in (rows + 1 + k) ids) (ne_eqb (rows + 1 + k) id differs))

    by_row : (b : Bool) → nat_lt rows id ≡ b → get_or (if b then slice_set marks (id - rows - 1) true else marks) k false ≡ (nat_eq (rows + 1 + k) id || is_in (rows + 1 + k) ids)
    by_row false low = are k within ∙ other (λ e. cc_low (omega (arith, e)))
      where
        cc_low : rows < id → ⊥
        cc_low less = true_not_false (sym (lt-ltb rows id less) ∙ low)
          where
            true_not_false : true ≡ false → ⊥
            true_not_false e = cc
    by_row true high = elim (cases_eq k (id - rows - 1)) [
      | inl e ↦ ap (λ i. get_or (slice_set marks (id - rows - 1) true) i false) e ∙ get_or-set_same marks (id - rows - 1) true false (omega (arith, within, e))
          ∙ sym (ap (λ (b : Bool). b || is_in (rows + 1 + k) ids) (eq-eqb (rows + 1 + k) id (let less = ltb-true rows id high in omega (arith, e, less))))
      | inr n ↦ get_or-set_other marks (id - rows - 1) k true false n ∙ are k within ∙ other (λ e. n (omega (arith, e)))
    ]

-- the order of marks doesn't matter
moved : (id x : ℕ) (xs later : List ℕ) → is_in id (xs ++ x ∷ later) ≡ is_in id ((x ∷ xs) ++ later)
moved id x xs later =
    list_any-append (nat_eq id) xs (x ∷ later)
    ∙ sym (or_assoc (is_in id xs) (nat_eq id x) (is_in id later))
    ∙ ap (λ (b : Bool). b || is_in id later) (or_comm (is_in id xs) (nat_eq id x))
    ∙ or_assoc (nat_eq id x) (is_in id xs) (is_in id later)
    ∙ ap (λ (b : Bool). nat_eq id x || b) (sym (list_any-append (nat_eq id) xs later))

pub mark_these : (rows : ℕ) (ids : List ℕ) (marks : List Bool) (later : List ℕ) → AreMarked rows marks later → AreMarked rows (fold (marked rows) marks ids) (ids ++ later)
mark_these rows [] marks later are k short = are k short
mark_these rows (x ∷ xs) marks later are k short =
    mark_these rows xs (marked rows marks x) (x ∷ later) (mark_here rows marks x later are) k short ∙ moved (rows + 1 + k) x xs later

-- ---- the walk back

pub drop_past : {X : Type 0} (xs : List X) (i : ℕ) → length xs ≤ i → drop i xs ≡ []
drop_past [] zero past = refl
drop_past [] (suc i) past = refl
drop_past (x ∷ xs) zero past = absurd (omega (arith, past))
drop_past (x ∷ xs) (suc i) past = drop_past xs i (omega (arith, past))

pub drop_all : {X : Type 0} (xs : List X) → drop (length xs) xs ≡ []
drop_all [] = refl
drop_all (x ∷ xs) = drop_all xs

-- none is needed after the last line, and none is marked
pub none_later : (rows n count : ℕ) → AreMarked rows (replicate count false) (needed_ids n [])
unfolding needed_ids
none_later rows n count k short = get_or-replicate count k false false (let e : length (replicate count false) ≡ count = length-replicate count false in omega (arith, short, e))

pub none_needed : (n : ℕ) → needed n [] ≡ []
unfolding needed
none_needed n = refl

module _ (lines : List Line) (i n : ℕ) (short : i < length lines) where
  abbrev here : Line
  here = get_or lines i no_line

  abbrev rest : List Line
  rest = drop (suc i) lines

  split : drop i lines ≡ here ∷ rest
  split = drop-cons lines i no_line short

  ids_split : needed_ids n (here ∷ rest) ≡ (if is_needed n here (needed_ids (n + made here) rest) then ids_named here else []) ++ needed_ids (n + made here) rest
  unfolding needed_ids
  ids_split = refl

  needs_split : needed n (here ∷ rest) ≡ is_needed n here (needed_ids (n + made here) rest) ∷ needed (n + made here) rest
  unfolding needed
  needs_split = refl

  -- what is needed from here on
  pub needed_here : (need : Bool) → need ≡ is_needed n here (needed_ids (n + made here) rest) → needed_ids n (drop i lines) ≡ named_if need here ++ needed_ids (n + made here) rest
  needed_here need is = ap (needed_ids n) split ∙ ids_split ∙ ap (λ (b : Bool). named_if b here ++ needed_ids (n + made here) rest) (sym is)

  pub needs_here : (need : Bool) → need ≡ is_needed n here (needed_ids (n + made here) rest) → needed n (drop i lines) ≡ need ∷ needed (n + made here) rest
  needs_here need is = ap (needed n) split ∙ needs_split ∙ ap (λ (b : Bool). b ∷ needed (n + made here) rest) (sym is)

pub needed_length : (n : ℕ) (lines : List Line) → length (needed n lines) ≡ length lines
unfolding needed
needed_length n [] = refl
needed_length n (l ∷ ls) = ap suc (needed_length (n + made l) ls)
