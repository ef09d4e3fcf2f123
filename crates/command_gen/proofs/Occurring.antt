-- The largest variable and the last objective of a generated instance occur in its text.
use Rattle.std.proofs.Common.{◌≡◌, ℕ, zero, suc, ◌+◌, ◌*◌, ◌<◌, ◌≤◌, List, [], ◌∷◌, ◌++◌, length, map, refl, sym, subst, arith}
use Rattle.std.specs.Prelude.{max, All}
use Rattle.std.specs.List.{range_with_len}
use Rattle.std.proofs.lemmas.List.Elements.{All-head, All-tail}
use Rattle.std.proofs.lemmas.List.FromFn.{length-map-range_with_len}
use Rattle.scut_base.specs.Literal.{Literal}
use Rattle.instance.specs.declared.objective.Soft.{Soft}
use Rattle.instance.specs.declared.objective.Objective.{Objective}
use Rattle.instance.specs.Shape.{ClauseUpTo, InstanceValue, IsObjectiveWithin, IsWithinLimits}
use Rattle.mcnf_reader.specs.declared.statement.Statement.{Statement}
use Rattle.mcnf_reader.specs.declared.statement.Statement.TheVariants.{Hard, Soft as SoftIn}
use Rattle.mcnf_reader.specs.Grammar.{largest_of, largest_variable, literals_of, objective_count, objective_of}
use Rattle.command_gen.specs.Draws.{beginning, state_after}
use Rattle.command_gen.specs.Generated.{drawn_clauses, drawn_objective, drawn_objectives, drawn_soft, generated, nth_objective}
use Rattle.command_gen.specs.Printed.{AllOccur, soft_statements, statements_of}
use Rattle.command_gen.proofs.Within.{generated_within}

abbrev said : ℕ → List Soft → List Statement
said k softs = map (λ (soft : Soft). SoftIn k soft.weight soft.lits) softs

-- ---- the largest variable

appended_upto : (n : ℕ) (first second : List Statement) → largest_variable first ≤ n → largest_variable second ≤ n → largest_variable (first ++ second) ≤ n
appended_upto n [] second left right = right
appended_upto n (s ∷ first) second left right =
    let both : max (largest_of (literals_of s)) (largest_variable first) ≤ n = left in
    let rest : largest_variable (first ++ second) ≤ n = appended_upto n first second (omega (arith, both)) right in
    let whole : max (largest_of (literals_of s)) (largest_variable (first ++ second)) ≤ n = omega (arith, both, rest) in
    whole

reached_after : (n : ℕ) (first second : List Statement) → n ≤ largest_variable second → n ≤ largest_variable (first ++ second)
reached_after n [] second right = right
reached_after n (s ∷ first) second right =
    let whole : n ≤ max (largest_of (literals_of s)) (largest_variable (first ++ second)) = omega (arith, reached_after n first second right) in
    whole

reached_before : (n : ℕ) (first second : List Statement) → n ≤ largest_variable first → n ≤ largest_variable (first ++ second)
reached_before zero first second left = omega arith
reached_before (suc n) [] second left = absurd (omega (arith, left))
reached_before (suc n) (s ∷ first) second left = by (largest_of (literals_of s)) left (reached_before (suc n) first second)
  where
    by : (own : ℕ) → suc n ≤ max own (largest_variable first) → (suc n ≤ largest_variable first → suc n ≤ largest_variable (first ++ second)) → suc n ≤ max own (largest_variable (first ++ second))
    by own some more = grind (arith, some, more)

clause_upto : (n : ℕ) (lits : List Literal) → ClauseUpTo n lits → largest_of lits ≤ n
clause_upto n [] all = omega arith
clause_upto n (l ∷ lits) all =
    let first : l.var ≤ n = All-head (λ (m : Literal). m.var ≤ n) l lits all in
    let rest : largest_of lits ≤ n = clause_upto n lits (All-tail (λ (m : Literal). m.var ≤ n) l lits all) in
    let whole : max l.var (largest_of lits) ≤ n = omega (arith, first, rest) in
    whole

hards_upto : (n : ℕ) (clauses : List (List Literal)) → All (ClauseUpTo n) clauses → largest_variable (map Hard clauses) ≤ n
hards_upto n [] all = omega arith
hards_upto n (lits ∷ clauses) all =
    let whole : max (largest_of lits) (largest_variable (map Hard clauses)) ≤ n =
    omega (arith, clause_upto n lits (All-head (ClauseUpTo n) lits clauses all), hards_upto n clauses (All-tail (ClauseUpTo n) lits clauses all)) in
    whole

softs_upto : (n k : ℕ) (softs : List Soft) → All (λ (s : Soft). ClauseUpTo n s.lits) softs → largest_variable (said k softs) ≤ n
softs_upto n k [] all = omega arith
softs_upto n k (soft ∷ softs) all =
    let whole : max (largest_of soft.lits) (largest_variable (said k softs)) ≤ n =
    omega (arith, clause_upto n soft.lits (All-head (λ (s : Soft). ClauseUpTo n s.lits) soft softs all), softs_upto n k softs (All-tail (λ (s : Soft). ClauseUpTo n s.lits) soft softs all)) in
    whole

objectives_upto : (n k : ℕ) (objectives : List Objective) → All (IsObjectiveWithin n) objectives → largest_variable (soft_statements k objectives) ≤ n
objectives_upto n k [] all = omega arith
objectives_upto n k (o ∷ objectives) all =
    appended_upto n (said k o.softs) (soft_statements (k + 1) objectives)
    (softs_upto n k o.softs (All-head (IsObjectiveWithin n) o objectives all).clauses)
    (objectives_upto n (k + 1) objectives (All-tail (IsObjectiveWithin n) o objectives all))

all_upto : (i : InstanceValue) → IsWithinLimits i → largest_variable (statements_of i) ≤ i.vars
all_upto i limits =
    appended_upto i.vars (map Hard i.clauses) (soft_statements 1 i.objectives) (hards_upto i.vars i.clauses limits.clauses) (objectives_upto i.vars 1 i.objectives limits.objectives)

-- the last of the items occurs
last_item : (k state a n : ℕ) → a + n ≤ largest_variable (said k (map (drawn_soft state) (range_with_len a (suc n))))
last_item k state a zero =
    let whole : a + 0 ≤ max (max a 0) 0 = omega arith in
    whole
last_item k state a (suc n) =
    let rest : (a + 1) + n ≤ largest_variable (said k (map (drawn_soft state) (range_with_len (a + 1) (suc n)))) = last_item k state (a + 1) n in
    let whole : a + suc n ≤ max (max a 0) (largest_variable (said k (map (drawn_soft state) (range_with_len (a + 1) (suc n))))) = omega (arith, rest) in
    whole

-- ---- the last objective

counted_upto : (n : ℕ) (first second : List Statement) → objective_count first ≤ n → objective_count second ≤ n → objective_count (first ++ second) ≤ n
counted_upto n [] second left right = right
counted_upto n (s ∷ first) second left right =
    let both : max (objective_of s) (objective_count first) ≤ n = left in
    let rest : objective_count (first ++ second) ≤ n = counted_upto n first second (omega (arith, both)) right in
    let whole : max (objective_of s) (objective_count (first ++ second)) ≤ n = omega (arith, both, rest) in
    whole

counted_after : (n : ℕ) (first second : List Statement) → n ≤ objective_count second → n ≤ objective_count (first ++ second)
counted_after n [] second right = right
counted_after n (s ∷ first) second right =
    let whole : n ≤ max (objective_of s) (objective_count (first ++ second)) = omega (arith, counted_after n first second right) in
    whole

hards_count : (clauses : List (List Literal)) → objective_count (map Hard clauses) ≤ 0
hards_count [] = omega arith
hards_count (lits ∷ clauses) =
    let whole : max 0 (objective_count (map Hard clauses)) ≤ 0 = omega (arith, hards_count clauses) in
    whole

softs_counted : (k : ℕ) (softs : List Soft) → objective_count (said k softs) ≤ k
softs_counted k [] = omega arith
softs_counted k (soft ∷ softs) =
    let whole : max k (objective_count (said k softs)) ≤ k = omega (arith, softs_counted k softs) in
    whole

objectives_counted : (n k : ℕ) (objectives : List Objective) → k + length objectives ≤ n + 1 → objective_count (soft_statements k objectives) ≤ n
objectives_counted n k [] fits = omega arith
objectives_counted n k (o ∷ objectives) fits =
    counted_upto n (said k o.softs) (soft_statements (k + 1) objectives) (omega (arith, softs_counted k o.softs, fits)) (objectives_counted n (k + 1) objectives (omega (arith, fits)))

first_counted : (k : ℕ) (soft : Soft) (softs : List Soft) (more : List Statement) → k ≤ objective_count (said k (soft ∷ softs) ++ more)
first_counted k soft softs more =
    let whole : k ≤ max k (objective_count (said k softs ++ more)) = omega arith in
    whole

-- where each objective has a soft clause
last_counted : (f : ℕ → Soft) (g : ℕ → List Soft) (h : ℕ → Objective) (k a n : ℕ) → ((j : ℕ) → (h j).softs ≡ f j ∷ g j) → k + n ≤ objective_count (soft_statements k (map h (range_with_len a (suc n))))
last_counted f g h k a zero each =
    subst (λ (softs : List Soft). k + 0 ≤ objective_count (said k softs ++ [])) (sym (each a)) (omega (arith, first_counted k (f a) (g a) []))
last_counted f g h k a (suc n) each =
    counted_after (k + suc n) (said k (h a).softs) (soft_statements (k + 1) (map h (range_with_len (a + 1) (suc n))))
    (omega (arith, last_counted f g h (k + 1) (a + 1) n each))

-- ---- both

pub generated_occurs : (number vars objectives : ℕ) → 0 < vars → vars ≤ 4096 → 0 < objectives → objectives ≤ 64 → AllOccur (generated number vars objectives)
generated_occurs number zero objectives some small one few = absurd (omega (arith, some))
generated_occurs number (suc v) zero some small one few = absurd (omega (arith, one))
generated_occurs number (suc v) (suc m) some small one few =
    let i = generated number (suc v) (suc m) in
    let state = state_after (3 * suc v) (beginning number) in
    let hard = map Hard (drawn_clauses (suc v) (beginning number)) in
    let upto : largest_variable (statements_of i) ≤ suc v = all_upto i (generated_within (suc v) some small number (suc m) few) in
    let item : 1 + v ≤ largest_variable (said 1 (drawn_objective (suc v) (state_after (suc v * 0) state)).softs) = last_item 1 (state_after (suc v * 0) state) 1 v in
    let reached : 1 + v ≤ largest_variable (statements_of i) =
    reached_after (1 + v) hard (soft_statements 1 (drawn_objectives (suc v) (suc m) state))
    (reached_before (1 + v) (said 1 (drawn_objective (suc v) (state_after (suc v * 0) state)).softs) (soft_statements 2 (map (nth_objective (suc v) state) (range_with_len 1 m))) item) in
    let count = length-map-range_with_len (nth_objective (suc v) state) 0 (suc m) in
    let counted : objective_count (statements_of i) ≤ suc m =
    counted_upto (suc m) hard (soft_statements 1 (drawn_objectives (suc v) (suc m) state)) (omega (arith, hards_count (drawn_clauses (suc v) (beginning number))))
    (objectives_counted (suc m) 1 (drawn_objectives (suc v) (suc m) state) (omega (arith, count))) in
    let last : 1 + m ≤ objective_count (statements_of i) =
    counted_after (1 + m) hard (soft_statements 1 (drawn_objectives (suc v) (suc m) state))
    (last_counted (λ k. drawn_soft (state_after (suc v * k) state) 1) (λ k. map (drawn_soft (state_after (suc v * k) state)) (range_with_len 2 v)) (nth_objective (suc v) state) 1 0 m (λ k. refl)) in
    record {
      variable = omega (arith, upto, reached);
      objective = omega (arith, counted, last, count);
    }
