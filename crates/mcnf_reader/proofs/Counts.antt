-- How many clauses and lines a text has.
use Rattle.std.proofs.Common.{◌≡◌, ◌≢◌, ℕ, zero, suc, ◌+◌, ◌<◌, ◌≤◌, Bool, true, false, cond, List, [], ◌∷◌, length, map, ⊎_elim, refl, sym, ap, subst, arith}
use Rattle.std.specs.Prelude.{◌==◌}
use Rattle.std.specs.List.{sum_by, range_with_len, slice_split}
use Rattle.std.specs.Str.Lines.{strip_carriage_return}
use Rattle.std.proofs.lemmas.Bool.{cases_eq}
use Rattle.std.proofs.lemmas.List.{length-append, length-map}
use Rattle.std.proofs.lemmas.List.Splits.{length-slice_split}
use Rattle.std.proofs.lemmas.List.Sums.{sum_by-cons, count_by-le-length}
use Rattle.scut_base.specs.Literal.{Literal}
use Rattle.scut_base.proofs.Lists.{total_length, split_length}
use Rattle.instance.specs.declared.objective.Objective.{Objective}
use Rattle.instance.specs.declared.objective.Soft.{Soft}
use Rattle.mcnf_reader.specs.declared.statement.Statement.{Statement}
use Rattle.mcnf_reader.specs.declared.statement.Statement.TheVariants.{Nothing, Hard, Soft as SoftIn}
use Rattle.mcnf_reader.specs.Words.{words_of, lines_of}
use Rattle.mcnf_reader.specs.Grammar.{SpellsStatement, hard_clauses, soft_of, softs_of}
use Rattle.mcnf_reader.proofs.Drafts.{soft_elsewhere}
use Rattle.mcnf_reader.proofs.Texts.{SpellAll}

-- 1 for a clause, 0 for nothing
abbrev clause_count : Statement → ℕ
clause_count Nothing = 0
clause_count (Hard lits) = 1
clause_count (SoftIn objective weight lits) = 1

-- how many of the statements are clauses
abbrev pub total_clauses : List Statement → ℕ
total_clauses [] = 0
total_clauses (s ∷ statements) = clause_count s + total_clauses statements

-- the clauses of a text are fewer than its bytes
clause_fits : (part : List ℕ) (s : Statement) → SpellsStatement (words_of (strip_carriage_return part)) s → clause_count s ≤ length part
clause_fits part Nothing says = omega arith
clause_fits [] (Hard lits) says = absurd says
clause_fits [] (SoftIn o w lits) says = absurd says
clause_fits (x ∷ part) (Hard lits) says = omega arith
clause_fits (x ∷ part) (SoftIn o w lits) says = omega arith

clauses_fit : (parts : List (List ℕ)) (xs : List Statement) → SpellAll (map strip_carriage_return parts) xs → total_clauses xs ≤ total_length parts
clauses_fit [] [] spelled = omega arith
clauses_fit [] (x ∷ xs) spelled = absurd spelled
clauses_fit (part ∷ parts) [] spelled = absurd spelled
clauses_fit (part ∷ parts) (x ∷ xs) spelled = omega (arith, clause_fits part x spelled.0, clauses_fit parts xs spelled.1)

pub fewer_clauses : (text : List ℕ) (xs : List Statement) → SpellAll (lines_of text) xs → total_clauses xs ≤ length text
fewer_clauses text xs spelled = omega (arith, clauses_fit (slice_split (λ b. b == 10) text) xs spelled, split_length (λ b. b == 10) text)

-- a text has at most one line more than bytes
pub lines_count : (text : List ℕ) → length (lines_of text) ≤ length text + 1
lines_count text = omega (arith, length-map (slice_split (λ b. b == 10) text) strip_carriage_return, length-slice_split (λ b. b == 10) text, count_by-le-length (λ b. b == 10) text)

-- how many clauses the objectives have
soft_if : (b : Bool) (s : Soft) → length (cond b (s ∷ []) []) ≤ 1
soft_if true s = omega arith
soft_if false s = omega arith

sum_of_two : (f g h : ℕ → ℕ) → ((k : ℕ) → f k ≡ g k + h k) → (ks : List ℕ) → sum_by f ks ≡ sum_by g ks + sum_by h ks
sum_of_two f g h same [] = refl
sum_of_two f g h same (k ∷ ks) = omega (arith, sum_by-cons f k ks, sum_by-cons g k ks, sum_by-cons h k ks, same k, sum_of_two f g h same ks)

-- a number that counts at one place only counts at most once
none_from : (f : ℕ → ℕ) (o n start : ℕ) → ((k : ℕ) → k ≢ o → f k ≡ 0) → o < start → sum_by f (range_with_len start n) ≡ 0
none_from f o zero start other lt = refl
none_from f o (suc n) start other lt = omega (arith, sum_by-cons f start (range_with_len (start + 1) n), other start (λ e. absurd (omega arith)), none_from f o n (start + 1) other (omega arith))

once_from : (f : ℕ → ℕ) (o n start : ℕ) → ((k : ℕ) → k ≢ o → f k ≡ 0) → f o ≤ 1 → sum_by f (range_with_len start n) ≤ 1
once_from f o zero start other one = omega arith
once_from f o (suc n) start other one =
    ⊎_elim
    (λ (same : start ≡ o).
    let here : f start ≤ 1 = subst (λ (j : ℕ). f j ≤ 1) (sym same) one in
    omega (arith, sum_by-cons f start (range_with_len (start + 1) n), here, none_from f o n (start + 1) other (omega arith)))
    (λ (less : start ≡ o → ⊥). omega (arith, sum_by-cons f start (range_with_len (start + 1) n), other start less, once_from f o n (start + 1) other one))
    (cases_eq start o)

soft_count : (n o weight : ℕ) (lits : List Literal) → sum_by (λ k. length (soft_of k (SoftIn o weight lits))) (range_with_len 1 n) ≤ 1
soft_count n o weight lits = once_from (λ k. length (soft_of k (SoftIn o weight lits))) o n 1 (λ k other. ap length (soft_elsewhere k o weight lits other)) (soft_if (o == o) (record { weight = weight; lits = lits }))

none_count : (f : ℕ → ℕ) → ((k : ℕ) → f k ≡ 0) → (ks : List ℕ) → sum_by f ks ≡ 0
none_count f none [] = refl
none_count f none (k ∷ ks) = omega (arith, sum_by-cons f k ks, none k, none_count f none ks)

clause_total_more : (n : ℕ) (s : Statement) (xs : List Statement) → sum_by (λ k. length (softs_of k (s ∷ xs))) (range_with_len 1 n) ≡ sum_by (λ k. length (soft_of k s)) (range_with_len 1 n) + sum_by (λ k. length (softs_of k xs)) (range_with_len 1 n) → length (hard_clauses xs) + sum_by (λ k. length (softs_of k xs)) (range_with_len 1 n) ≤ total_clauses xs → length (hard_clauses (s ∷ xs)) + sum_by (λ k. length (softs_of k (s ∷ xs))) (range_with_len 1 n) ≤ total_clauses (s ∷ xs)
clause_total_more n Nothing xs both rest = omega (arith, both, rest, none_count (λ k. length (soft_of k Nothing)) (λ k. refl) (range_with_len 1 n))
clause_total_more n (Hard lits) xs both rest = omega (arith, both, rest, none_count (λ k. length (soft_of k (Hard lits))) (λ k. refl) (range_with_len 1 n))
clause_total_more n (SoftIn o weight lits) xs both rest = omega (arith, both, rest, soft_count n o weight lits)

pub clause_total : (n : ℕ) (xs : List Statement) → length (hard_clauses xs) + sum_by (λ k. length (softs_of k xs)) (range_with_len 1 n) ≤ total_clauses xs
clause_total n [] = omega (arith, none_count (λ k. length (softs_of k [])) (λ k. refl) (range_with_len 1 n))
clause_total n (s ∷ xs) =
    let both = sum_of_two (λ k. length (softs_of k (s ∷ xs))) (λ k. length (soft_of k s)) (λ k. length (softs_of k xs)) (λ k. length-append (soft_of k s) (softs_of k xs)) (range_with_len 1 n) in
    clause_total_more n s xs both (clause_total n xs)

pub sum_by_map : (f : Objective → ℕ) (g : ℕ → Objective) (ks : List ℕ) → sum_by f (map g ks) ≡ sum_by (λ k. f (g k)) ks
sum_by_map f g [] = refl
sum_by_map f g (k ∷ ks) = omega (arith, sum_by-cons f (g k) (map g ks), sum_by-cons (λ j. f (g j)) k ks, sum_by_map f g ks)
