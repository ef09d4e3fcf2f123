-- The limits of an instance, and those of its statements one by one.
use Rattle.std.proofs.Common.{◌≡◌, ℕ, ◌+◌, ◌-◌, ◌<◌, ◌≤◌, ◌^◌, Bool, true, false, cond, max, List, [], ◌∷◌, ◌++◌, length, map, take, get_or, ⊎_elim, refl, sym, ap, ◌∙◌, subst, ℤ, arith}
use Rattle.std.specs.Prelude.{◌==◌}
use Rattle.std.specs.List.{All, sum_by, range_with_len}
use Rattle.std.proofs.lemmas.Bool.{cases_eq, eq-eqb}
use Rattle.std.proofs.lemmas.List.Elements.{All-nil, All-cons, All-append, All-get_or, All-from_get_or}
use Rattle.std.proofs.lemmas.List.FromFn.{length-map-range_with_len, take-map-range_with_len, get_or-map-range_with_len}
use Rattle.std.proofs.lemmas.List.Sums.{sum_by-append}
use Rattle.scut_base.specs.Literal.{Literal}
use Rattle.instance.specs.declared.objective.Soft.{Soft}
use Rattle.instance.specs.Shape.{InstanceValue, IsWithinLimits, IsObjectiveWithin, IsRowWithin, ClauseUpTo, weights_sum}
use Rattle.mcnf_reader.specs.declared.draft.Draft.{Draft}
use Rattle.mcnf_reader.specs.declared.statement.Statement.{Statement}
use Rattle.mcnf_reader.specs.declared.statement.Statement.TheVariants.{Nothing, Hard, Soft as SoftIn}
use Rattle.mcnf_reader.specs.Words.{lines_of}
use Rattle.mcnf_reader.specs.Grammar.{Spells, SpellsStatement, literals_of, largest_of, largest_variable, objective_of, objective_count, hard_clauses, soft_of, softs_of, objective_at, objectives_of}
use Rattle.mcnf_reader.specs.LineLimits.{IsStatementWithin}
use Rattle.mcnf_reader.specs.Draft.{IsReady, IsDraftOf, objective_numbers, weight_of, instance_of}
use Rattle.mcnf_reader.specs.Reads.{IsReadAs}
use Rattle.mcnf_reader.proofs.Drafts.{softs_of-append, softs_of_push, largest_variable_push, objective_count_push, largest_within, soft_here, soft_elsewhere, weight_at}
use Rattle.mcnf_reader.proofs.Texts.{SpellAll, instance_from}
use Rattle.mcnf_reader.proofs.Counts.{fewer_clauses, clause_total, sum_by_map}

-- variables up to a number
up_to : (n : ℕ) (lits : List Literal) → largest_of lits ≤ n → ClauseUpTo n lits
up_to n [] le = All-nil (λ l. l.var ≤ n)
up_to n (l ∷ lits) le = All-cons (λ k. k.var ≤ n) l lits (omega arith) (up_to n lits (omega arith))

hard_up_to : (n : ℕ) (xs : List Statement) → largest_variable xs ≤ n → All (ClauseUpTo n) (hard_clauses xs)
hard_up_to n [] le = All-nil (ClauseUpTo n)
hard_up_to n (Nothing ∷ xs) le = hard_up_to n xs (omega arith)
hard_up_to n (Hard lits ∷ xs) le = All-cons (ClauseUpTo n) lits (hard_clauses xs) (up_to n lits (omega arith)) (hard_up_to n xs (omega arith))
hard_up_to n (SoftIn o w lits ∷ xs) le = hard_up_to n xs (omega arith)

all_or_none : {X : Type 0} (P : X → Type 0) (b : Bool) (x : X) → P x → All P (cond b (x ∷ []) [])
all_or_none P true x holds = All-cons P x [] holds (All-nil P)
all_or_none P false x holds = All-nil P

soft_up_to : (n k : ℕ) (s : Statement) → largest_of (literals_of s) ≤ n → All (λ s. ClauseUpTo n s.lits) (soft_of k s)
soft_up_to n k Nothing le = All-nil (λ (s : Soft). ClauseUpTo n s.lits)
soft_up_to n k (Hard lits) le = All-nil (λ (s : Soft). ClauseUpTo n s.lits)
soft_up_to n k (SoftIn o w lits) le = all_or_none (λ (s : Soft). ClauseUpTo n s.lits) (o == k) (record { weight = w; lits = lits }) (up_to n lits le)

softs_up_to : (n k : ℕ) (xs : List Statement) → largest_variable xs ≤ n → All (λ s. ClauseUpTo n s.lits) (softs_of k xs)
softs_up_to n k [] le = All-nil (λ (s : Soft). ClauseUpTo n s.lits)
softs_up_to n k (x ∷ xs) le = All-append (λ (s : Soft). ClauseUpTo n s.lits) (soft_of k x) (softs_of k xs) (soft_up_to n k x (omega arith)) (softs_up_to n k xs (omega arith))

objective_within : (n k : ℕ) (xs : List Statement) → largest_variable xs ≤ n → weight_of xs k < 2 ^ 63 → IsObjectiveWithin n (objective_at xs k)
objective_within n k xs le small = record {
  clauses = softs_up_to n k xs le;
  variables = All-nil (λ (t : ℤ × Literal). t.1.var ≤ n);
  magnitude = omega (arith, small);
  maximised = λ max. cc;
}

-- the limits of an instance are those of each statement
largest_variable-append : (xs ys : List Statement) → largest_variable (xs ++ ys) ≡ max (largest_variable xs) (largest_variable ys)
largest_variable-append [] ys = omega arith
largest_variable-append (x ∷ xs) ys = omega (arith, largest_variable-append xs ys)

objective_count-append : (xs ys : List Statement) → objective_count (xs ++ ys) ≡ max (objective_count xs) (objective_count ys)
objective_count-append [] ys = omega arith
objective_count-append (x ∷ xs) ys = omega (arith, objective_count-append xs ys)

one_weight : (k weight : ℕ) (lits : List Literal) (done left : List Statement) → weight_of done k + weight ≤ weight_of (done ++ SoftIn k weight lits ∷ left) k
one_weight k weight lits done left =
    let s = SoftIn k weight lits in
    let w : Soft → ℕ = λ x. x.weight in
    let here : soft_of k s ≡ record { weight = weight; lits = lits } ∷ [] = ap (λ b. cond b (record { weight = weight; lits = lits } ∷ []) []) (eq-eqb k k refl) in
    let all : weight_of (done ++ s ∷ left) k ≡ sum_by w (softs_of k done) + sum_by w (soft_of k s ++ softs_of k left) = ap weights_sum (softs_of-append k done (s ∷ left)) ∙ sum_by-append w (softs_of k done) (soft_of k s ++ softs_of k left) in
    let back : sum_by w (soft_of k s ++ softs_of k left) ≡ sum_by w (soft_of k s) + sum_by w (softs_of k left) = sum_by-append w (soft_of k s) (softs_of k left) in
    let one : sum_by w (soft_of k s) ≡ 0 + weight = ap (λ softs. sum_by w softs) here in
    omega (arith, all, back, one)

weight_within : (i : InstanceValue) (k : ℕ) (xs : List Statement) → 0 < k → k ≤ objective_count xs → i.objectives ≡ objectives_of xs → IsWithinLimits i → weight_of xs k < 2 ^ 63
weight_within i k xs some le same limits =
    let n = objective_count xs in
    let long : length i.objectives ≡ n = ap length same ∙ length-map-range_with_len (objective_at xs) 1 n in
    let at : get_or i.objectives (k - 1) (objective_at xs k) ≡ objective_at xs k = ap (λ os. get_or os (k - 1) (objective_at xs k)) same ∙ get_or-map-range_with_len (objective_at xs) 1 n (k - 1) k (objective_at xs k) (omega arith) (omega arith) in
    let within : IsObjectiveWithin i.vars (get_or i.objectives (k - 1) (objective_at xs k)) = All-get_or (IsObjectiveWithin i.vars) i.objectives (k - 1) (objective_at xs k) (omega (arith, long)) limits.objectives in
    let here : IsObjectiveWithin i.vars (objective_at xs k) = subst (IsObjectiveWithin i.vars) at within in
    omega (arith, here.magnitude)

soft_within : (i : InstanceValue) (done left : List Statement) (k weight : ℕ) (lits : List Literal) → 0 < k → i.vars ≡ largest_variable (done ++ SoftIn k weight lits ∷ left) → i.objectives ≡ objectives_of (done ++ SoftIn k weight lits ∷ left) → IsWithinLimits i → IsStatementWithin (map (weight_of done) objective_numbers) (SoftIn k weight lits)
soft_within i done left k weight lits some vars objectives limits =
    let s = SoftIn k weight lits in
    let all = done ++ s ∷ left in
    let count : objective_count all ≡ max (objective_count done) (max k (objective_count left)) = objective_count-append done (s ∷ left) in
    let long : length i.objectives ≡ objective_count all = ap length objectives ∙ length-map-range_with_len (objective_at all) 1 (objective_count all) in
    let le : k ≤ 64 = omega (arith, limits.count, long, count) in
    let largest : largest_variable all ≡ max (largest_variable done) (max (largest_of lits) (largest_variable left)) = largest_variable-append done (s ∷ left) in
    let whole : weight_of all k < 2 ^ 63 = weight_within i k all some (omega (arith, count)) objectives limits in
    (some, le, omega (arith, weight_at done k some le, whole, one_weight k weight lits done left), up_to (2 ^ 24) lits (omega (arith, vars, largest, limits.variables)))

pub statement_within : (i : InstanceValue) (done left : List Statement) (words : List (List ℕ)) (s : Statement) → SpellsStatement words s → i.vars ≡ largest_variable (done ++ s ∷ left) → i.objectives ≡ objectives_of (done ++ s ∷ left) → IsWithinLimits i → IsStatementWithin (map (weight_of done) objective_numbers) s
statement_within i done left words Nothing says vars objectives limits = tt
statement_within i done left words (Hard lits) says vars objectives limits =
    let largest : largest_variable (done ++ Hard lits ∷ left) ≡ max (largest_variable done) (max (largest_of lits) (largest_variable left)) = largest_variable-append done (Hard lits ∷ left) in
    up_to (2 ^ 24) lits (omega (arith, vars, largest, limits.variables))
statement_within i done left [] (SoftIn k weight lits) says vars objectives limits = absurd says
statement_within i done left (first ∷ []) (SoftIn k weight lits) says vars objectives limits = absurd says
statement_within i done left (first ∷ second ∷ words) (SoftIn k weight lits) says vars objectives limits =
    soft_within i done left k weight lits says.0.positive vars objectives limits

-- The statements keep the limits.
pub record AreWithin (xs : List Statement) : Type 0 where
  pub variables : largest_variable xs ≤ 2 ^ 24
  pub count : objective_count xs ≤ 64
  pub weights : (k : ℕ) → 0 < k → k ≤ 64 → weight_of xs k < 2 ^ 63

weight_push : (k : ℕ) (done : List Statement) (s : Statement) → weight_of (done ++ s ∷ []) k ≡ weight_of done k + weights_sum (soft_of k s)
weight_push k done s = ap weights_sum (softs_of_push k done s) ∙ sum_by-append (λ (x : Soft). x.weight) (softs_of k done) (soft_of k s)

nothing_more : (k : ℕ) (done : List Statement) (s : Statement) → soft_of k s ≡ [] → weight_of done k < 2 ^ 63 → weight_of (done ++ s ∷ []) k < 2 ^ 63
nothing_more k done s none small =
    let zero : weights_sum (soft_of k s) ≡ 0 = ap weights_sum none in
    omega (arith, weight_push k done s, zero)

weight_more : (k : ℕ) (done : List Statement) (s : Statement) → IsStatementWithin (map (weight_of done) objective_numbers) s → weight_of done k < 2 ^ 63 → weight_of (done ++ s ∷ []) k < 2 ^ 63
weight_more k done Nothing within small = nothing_more k done Nothing refl small
weight_more k done (Hard lits) within small = nothing_more k done (Hard lits) refl small
weight_more k done (SoftIn o weight lits) within small =
    ⊎_elim
    (λ (same : k ≡ o).
    let sum : weights_sum (soft_of o (SoftIn o weight lits)) ≡ 0 + weight = ap weights_sum (soft_here o weight lits) in
    let all : weight_of (done ++ SoftIn o weight lits ∷ []) o < 2 ^ 63 = omega (arith, weight_push o done (SoftIn o weight lits), sum, weight_at done o within.0 within.1, within.2) in
    subst (λ (j : ℕ). weight_of (done ++ SoftIn o weight lits ∷ []) j < 2 ^ 63) (sym same) all)
    (λ (other : k ≡ o → ⊥). nothing_more k done (SoftIn o weight lits) (soft_elsewhere k o weight lits other) small)
    (cases_eq k o)

literals_within : (sums : List ℕ) (s : Statement) → IsStatementWithin sums s → largest_of (literals_of s) ≤ 2 ^ 24
literals_within sums Nothing within = omega arith
literals_within sums (Hard lits) within = largest_within (2 ^ 24) lits within
literals_within sums (SoftIn o weight lits) within = largest_within (2 ^ 24) lits within.3

objective_below : (sums : List ℕ) (s : Statement) → IsStatementWithin sums s → objective_of s ≤ 64
objective_below sums Nothing within = omega arith
objective_below sums (Hard lits) within = omega arith
objective_below sums (SoftIn o weight lits) within = within.1

pub within_push : (done : List Statement) (s : Statement) → IsStatementWithin (map (weight_of done) objective_numbers) s → AreWithin done → AreWithin (done ++ s ∷ [])
within_push done s within so_far =
    let sums = map (weight_of done) objective_numbers in
    record {
      variables = omega (arith, so_far.variables, largest_variable_push done s, literals_within sums s within);
      count = omega (arith, so_far.count, objective_count_push done s, objective_below sums s within);
      weights = λ k some le. weight_more k done s within (so_far.weights k some le);
    }

-- the instance of statements
abbrev pub statements_instance : List Statement → InstanceValue
statements_instance xs = record { vars = largest_variable xs; clauses = hard_clauses xs; linear = []; objectives = objectives_of xs }

objectives_within : (xs : List Statement) → AreWithin xs → All (IsObjectiveWithin (largest_variable xs)) (objectives_of xs)
objectives_within xs within = All-from_get_or (IsObjectiveWithin (largest_variable xs)) (objectives_of xs) (objective_at xs 0) (λ i lt.
    let small : i < objective_count xs = omega (arith, length-map-range_with_len (objective_at xs) 1 (objective_count xs)) in
    let here : get_or (objectives_of xs) i (objective_at xs 0) ≡ objective_at xs (1 + i) = get_or-map-range_with_len (objective_at xs) 1 (objective_count xs) i (1 + i) (objective_at xs 0) small refl in
    rw here (objective_within (largest_variable xs) (1 + i) xs (omega arith) (within.weights (1 + i) (omega arith) (omega (arith, within.count)))))

-- lines that spell statements within the limits spell their instance
pub statements_spell : (text : List ℕ) (xs : List Statement) → length text < 2 ^ 32 → SpellAll (lines_of text) xs → AreWithin xs → Spells text (statements_instance xs)
statements_spell text xs short spelled within = record {
  statements = xs;
  lines = spelled;
  variables = refl;
  clauses = refl;
  rows = refl;
  objectives = refl;
  limits = record {
    variables = within.variables;
    count = omega (arith, within.count, length-map-range_with_len (objective_at xs) 1 (objective_count xs));
    clauses = hard_up_to (largest_variable xs) xs (omega arith);
    rows = All-nil (IsRowWithin (largest_variable xs));
    objectives = objectives_within xs within;
    size = omega (arith, clause_total (objective_count xs) xs, sum_by_map (λ o. length o.softs) (objective_at xs) (range_with_len 1 (objective_count xs)), fewer_clauses text xs spelled);
  };
}

-- the statements of a draft keep the limits
draft_within : (d : Draft) (xs : List Statement) → IsReady d → IsDraftOf d xs → AreWithin xs
draft_within d xs ready draft = record {
  variables = omega (arith, draft.variables, draft.variables_within);
  count = omega (arith, draft.number, draft.number_within);
  weights = λ k some le.
      let here : get_or d.sums (k - 1) 0 ≡ weight_of xs k = ap (λ ns. get_or ns (k - 1) 0) draft.weights ∙ weight_at xs k some le in
      let long : length d.sums ≡ 64 = ap length draft.weights ∙ length-map-range_with_len (weight_of xs) 1 64 in
      let bound : get_or d.sums (k - 1) 0 < 2 ^ 63 = All-get_or (λ sum. sum < 2 ^ 63) d.sums (k - 1) 0 (omega (arith, long)) ready.small in
      omega (arith, here, bound);
}

draft_instance : (d : Draft) (xs : List Statement) → IsDraftOf d xs → statements_instance xs ≡ instance_of d
draft_instance d xs draft =
    let objectives : take d.count d.objectives.items ≡ objectives_of xs = ap (take d.count) draft.soft ∙ take-map-range_with_len (objective_at xs) 1 64 d.count draft.number_within ∙ ap (λ n. map (objective_at xs) (range_with_len 1 n)) draft.number in
    ap (λ n. instance_from n (hard_clauses xs) [] (objectives_of xs)) (sym draft.variables) ∙ ap (λ clauses. instance_from d.vars clauses [] (objectives_of xs)) (sym draft.hard) ∙ ap (instance_from d.vars d.clauses []) (sym objectives)

-- the text spells the instance of what its lines make
pub draft_spells : (text : List ℕ) (d : Draft) → length text < 2 ^ 32 → IsReadAs text d → Spells text (instance_of d)
draft_spells text d short reads =
    let spells : Spells text (statements_instance reads.statements) = statements_spell text reads.statements short reads.lines (draft_within d reads.statements reads.ready reads.draft) in
    subst (Spells text) (draft_instance d reads.statements reads.draft) spells
