-- What a statement more makes of a draft.
use Rattle.std.proofs.Common.{◌≡◌, ◌≢◌, ℕ, ◌+◌, ◌-◌, ◌<◌, ◌≤◌, ◌^◌, cond, max, List, [], ◌∷◌, ◌++◌, length, map, take, get_or, set, Some, ⊎_elim, refl, sym, ap, ◌∙◌, subst, append_assoc, append-nil, pos, arith, rules}
use Rattle.std.specs.Prelude.{slice_get, slice_index}
use Rattle.std.specs.Ordering.{ord_max, nat_cmp}
use Rattle.std.specs.List.{range_with_len, All}
use Rattle.std.proofs.lemmas.Bool.{cases_eq, eq-eqb, ne_eqb}
use Rattle.std.proofs.lemmas.Option.{slice_get-get_or, get_or_from_slice_get}
use Rattle.std.proofs.lemmas.List.{ext_get_or, take_more, length-set, get_or-set_same, get_or-set_other}
use Rattle.std.proofs.lemmas.List.Elements.{All-head, All-tail, All-set}
use Rattle.std.proofs.lemmas.List.FromFn.{length-map-range_with_len, get_or-map-range_with_len}
use Rattle.std.proofs.lemmas.List.Sums.{sum_by_push}
use Rattle.scut_base.specs.Literal.{Literal}
use Rattle.scut_base.proofs.Lists.{map_agree}
use Rattle.instance.specs.declared.objective.Objective.{Objective}
use Rattle.instance.specs.declared.objective.Soft.{Soft}
use Rattle.instance.specs.declared.objective.Sense.TheVariants.{Min}
use Rattle.instance.specs.Shape.{weights_sum}
use Rattle.mcnf_reader.specs.declared.draft.Draft.{Draft}
use Rattle.mcnf_reader.specs.declared.statement.Statement.{Statement}
use Rattle.mcnf_reader.specs.declared.statement.Statement.TheVariants.{Nothing, Hard, Soft as SoftIn}
use Rattle.mcnf_reader.specs.Grammar.{literals_of, largest_of, largest_variable, objective_of, objective_count, hard_clauses, soft_of, softs_of, objective_at}
use Rattle.mcnf_reader.specs.LineLimits.{IsClauseWithin, IsStatementWithin}
use Rattle.mcnf_reader.specs.Draft.{IsReady, IsDraftOf, AddsSoft, with_soft, objective_numbers, weight_of}

-- one literal more
pub largest_push : (lits : List Literal) (l : Literal) → largest_of (lits ++ l ∷ []) ≡ max (largest_of lits) l.var
largest_push [] l = omega arith
largest_push (k ∷ lits) l = omega (arith, largest_push lits l)

pub largest_within : (n : ℕ) (lits : List Literal) → All (λ l. l.var ≤ n) lits → largest_of lits ≤ n
largest_within n [] within = omega arith
largest_within n (l ∷ lits) within =
    let head : l.var ≤ n = All-head (λ k. k.var ≤ n) l lits within in
    omega (arith, largest_within n lits (All-tail (λ k. k.var ≤ n) l lits within))

-- one statement more
pub hard_clauses-append : (xs ys : List Statement) → hard_clauses (xs ++ ys) ≡ hard_clauses xs ++ hard_clauses ys
hard_clauses-append [] ys = refl
hard_clauses-append (Nothing ∷ xs) ys = hard_clauses-append xs ys
hard_clauses-append (Hard lits ∷ xs) ys = ap (λ more. lits ∷ more) (hard_clauses-append xs ys)
hard_clauses-append (SoftIn objective weight lits ∷ xs) ys = hard_clauses-append xs ys

pub softs_of-append : (k : ℕ) (xs ys : List Statement) → softs_of k (xs ++ ys) ≡ softs_of k xs ++ softs_of k ys
softs_of-append k [] ys = refl
softs_of-append k (x ∷ xs) ys = ap (λ more. soft_of k x ++ more) (softs_of-append k xs ys) ∙ sym (append_assoc (soft_of k x) (softs_of k xs) (softs_of k ys))

pub softs_of_push : (k : ℕ) (xs : List Statement) (s : Statement) → softs_of k (xs ++ s ∷ []) ≡ softs_of k xs ++ soft_of k s
softs_of_push k xs s = softs_of-append k xs (s ∷ []) ∙ ap (λ more. softs_of k xs ++ more) (append-nil (soft_of k s))

pub largest_variable_push : (xs : List Statement) (s : Statement) → largest_variable (xs ++ s ∷ []) ≡ max (largest_variable xs) (largest_of (literals_of s))
largest_variable_push [] s = omega arith
largest_variable_push (x ∷ xs) s = omega (arith, largest_variable_push xs s)

pub objective_count_push : (xs : List Statement) (s : Statement) → objective_count (xs ++ s ∷ []) ≡ max (objective_count xs) (objective_of s)
objective_count_push [] s = omega arith
objective_count_push (x ∷ xs) s = omega (arith, objective_count_push xs s)

abbrev objective_from : List Soft → Objective
objective_from softs = record { sense = Min; softs = softs; terms = []; offset = pos 0 }

-- a statement with no soft clause in an objective changes nothing there
no_soft : (k : ℕ) (done : List Statement) (s : Statement) → soft_of k s ≡ [] → softs_of k (done ++ s ∷ []) ≡ softs_of k done
no_soft k done s none = softs_of_push k done s ∙ ap (λ more. softs_of k done ++ more) none ∙ append-nil (softs_of k done)

same_objectives : (done : List Statement) (s : Statement) → ((k : ℕ) → soft_of k s ≡ []) → map (objective_at done) objective_numbers ≡ map (objective_at (done ++ s ∷ [])) objective_numbers
same_objectives done s none = map_agree (objective_at done) (objective_at (done ++ s ∷ [])) (λ k. ap objective_from (sym (no_soft k done s (none k)))) objective_numbers

same_weights : (done : List Statement) (s : Statement) → ((k : ℕ) → soft_of k s ≡ []) → map (weight_of done) objective_numbers ≡ map (weight_of (done ++ s ∷ [])) objective_numbers
same_weights done s none = map_agree (weight_of done) (weight_of (done ++ s ∷ [])) (λ k. ap weights_sum (sym (no_soft k done s (none k)))) objective_numbers

pub draft_nothing : (d : Draft) (done : List Statement) → IsDraftOf d done → IsDraftOf d (done ++ Nothing ∷ [])
draft_nothing d done so_far = record {
  hard = so_far.hard ∙ sym (hard_clauses-append done (Nothing ∷ []) ∙ append-nil (hard_clauses done));
  soft = so_far.soft ∙ same_objectives done Nothing (λ k. refl);
  weights = so_far.weights ∙ same_weights done Nothing (λ k. refl);
  variables = omega (arith, so_far.variables, largest_variable_push done Nothing);
  variables_within = so_far.variables_within;
  number = omega (arith, so_far.number, objective_count_push done Nothing);
  number_within = so_far.number_within;
}

pub draft_hard : (d e : Draft) (done : List Statement) (lits : List Literal) → e ≡ record d { clauses = d.clauses ++ lits ∷ []; vars = max d.vars (largest_of lits) } → IsClauseWithin lits → IsDraftOf d done → IsDraftOf e (done ++ Hard lits ∷ [])
draft_hard d e done lits same within so_far =
    let small : largest_of lits ≤ 2 ^ 24 = largest_within (2 ^ 24) lits within in
    subst (λ (x : Draft). IsDraftOf x (done ++ Hard lits ∷ [])) (sym same) (record {
      hard = ap (λ clauses. clauses ++ lits ∷ []) so_far.hard ∙ sym (hard_clauses-append done (Hard lits ∷ []));
      soft = so_far.soft ∙ same_objectives done (Hard lits) (λ k. refl);
      weights = so_far.weights ∙ same_weights done (Hard lits) (λ k. refl);
      variables = omega (arith, so_far.variables, largest_variable_push done (Hard lits));
      variables_within = omega (arith, so_far.variables_within, small);
      number = omega (arith, so_far.number, objective_count_push done (Hard lits));
      number_within = so_far.number_within;
    })

-- a list by places, with one of them changed
set_range : {X : Type 0} (f g : ℕ → X) (n i k : ℕ) → i < n → 1 + i ≡ k → ((j : ℕ) → j ≢ k → f j ≡ g j) → set (map f (range_with_len 1 n)) i (g k) ≡ map g (range_with_len 1 n)
set_range f g n i k lt at others =
    let xs = map f (range_with_len 1 n) in
    let long : length xs ≡ n = length-map-range_with_len f 1 n in
    let long' : length (map g (range_with_len 1 n)) ≡ n = length-map-range_with_len g 1 n in
    let kept : length (set xs i (g k)) ≡ n = length-set xs i (g k) ∙ long in
    ext_get_or (g k) (set xs i (g k)) (map g (range_with_len 1 n)) (kept ∙ sym long') (λ j below.
    ⊎_elim
    (λ (same : j ≡ i). subst (λ (m : ℕ). get_or (set xs i (g k)) m (g k) ≡ get_or (map g (range_with_len 1 n)) m (g k)) (sym same)
    (get_or-set_same xs i (g k) (g k) (omega arith) ∙ sym (get_or-map-range_with_len g 1 n i k (g k) lt at)))
    (λ (other : j ≢ i). get_or-set_other xs i j (g k) (g k) other ∙ get_or-map-range_with_len f 1 n j (1 + j) (g k) (omega arith) refl ∙ others (1 + j) (λ e. other (omega arith)) ∙ sym (get_or-map-range_with_len g 1 n j (1 + j) (g k) (omega arith) refl))
    (cases_eq j i))

larger_of : (a b : ℕ) → ord_max nat_cmp a b ≡ max a b
larger_of a b = search rules

-- the largest so far with one literal more
pub largest_more : (lits : List Literal) (i : ℕ) (l : Literal) (x y : ℕ) → i < length lits → l ≡ get_or lits i l → x ≡ largest_of (take i lits) → y ≡ ord_max nat_cmp x l.var → y ≡ largest_of (take (i + 1) lits)
largest_more lits i l x y lt read so_far new =
    let more : take (i + 1) lits ≡ take i lits ++ l ∷ [] = take_more lits i l lt ∙ ap (λ k. take i lits ++ k ∷ []) (sym read) in
    let pushed : largest_of (take (i + 1) lits) ≡ max (largest_of (take i lits)) l.var = ap largest_of more ∙ largest_push (take i lits) l in
    new ∙ larger_of x l.var ∙ ap (λ n. max n l.var) so_far ∙ sym pushed

pub soft_here : (k weight : ℕ) (lits : List Literal) → soft_of k (SoftIn k weight lits) ≡ record { weight = weight; lits = lits } ∷ []
soft_here k weight lits = ap (λ b. cond b (record { weight = weight; lits = lits } ∷ []) []) (eq-eqb k k refl)

pub soft_elsewhere : (j k weight : ℕ) (lits : List Literal) → j ≢ k → soft_of j (SoftIn k weight lits) ≡ []
soft_elsewhere j k weight lits other = ap (λ b. cond b (record { weight = weight; lits = lits } ∷ []) []) (ne_eqb k j (λ e. other (sym e)))

-- the softs of an objective, one clause on
soft_more : (k weight : ℕ) (lits : List Literal) (done : List Statement) → softs_of k (done ++ SoftIn k weight lits ∷ []) ≡ softs_of k done ++ record { weight = weight; lits = lits } ∷ []
soft_more k weight lits done = softs_of_push k done (SoftIn k weight lits) ∙ ap (λ more. softs_of k done ++ more) (soft_here k weight lits)

pub soft_objectives : (done : List Statement) (k weight : ℕ) (lits : List Literal) → 0 < k → k ≤ 64 → set (map (objective_at done) objective_numbers) (k - 1) (with_soft (objective_at done k) (record { weight = weight; lits = lits })) ≡ map (objective_at (done ++ SoftIn k weight lits ∷ [])) objective_numbers
soft_objectives done k weight lits some le =
    let s = SoftIn k weight lits in
    let here : with_soft (objective_at done k) (record { weight = weight; lits = lits }) ≡ objective_at (done ++ s ∷ []) k = ap objective_from (sym (soft_more k weight lits done)) in
    rw here (set_range (objective_at done) (objective_at (done ++ s ∷ [])) 64 (k - 1) k (omega arith) (omega arith) (λ j other. ap objective_from (sym (no_soft j done s (soft_elsewhere j k weight lits other)))))

pub soft_weights : (done : List Statement) (k weight : ℕ) (lits : List Literal) → 0 < k → k ≤ 64 → set (map (weight_of done) objective_numbers) (k - 1) (weight_of done k + weight) ≡ map (weight_of (done ++ SoftIn k weight lits ∷ [])) objective_numbers
soft_weights done k weight lits some le =
    let s = SoftIn k weight lits in
    let here : weight_of done k + weight ≡ weight_of (done ++ s ∷ []) k = sym (sum_by_push (λ x. x.weight) (softs_of k done) (record { weight = weight; lits = lits })) ∙ ap weights_sum (sym (soft_more k weight lits done)) in
    rw here (set_range (weight_of done) (weight_of (done ++ s ∷ [])) 64 (k - 1) k (omega arith) (omega arith) (λ j other. ap weights_sum (sym (no_soft j done s (soft_elsewhere j k weight lits other)))))

-- what the sum of an objective's weights is
pub weight_at : (done : List Statement) (k : ℕ) → 0 < k → k ≤ 64 → slice_index (map (weight_of done) objective_numbers) (k - 1) ≡ weight_of done k
weight_at done k some le = get_or-map-range_with_len (weight_of done) 1 64 (k - 1) k 0 (omega arith) (omega arith)

pub draft_soft : (d e : Draft) (done : List Statement) (k weight : ℕ) (lits : List Literal) → IsReady d → IsStatementWithin d.sums (SoftIn k weight lits) → AddsSoft d e k weight lits → IsDraftOf d done → IsDraftOf e (done ++ SoftIn k weight lits ∷ [])
draft_soft d e done k weight lits ready within added so_far =
    let s = SoftIn k weight lits in
    let some : 0 < k = within.0 in
    let le : k ≤ 64 = within.1 in
    let small : largest_of lits ≤ 2 ^ 24 = largest_within (2 ^ 24) lits within.3 in
    let lt : k - 1 < length d.objectives.items = omega (arith, ready.room) in
    let read : slice_get d.objectives.items (k - 1) ≡ Some (objective_at done k) = slice_get-get_or d.objectives.items (k - 1) (objective_at done k) lt ∙ ap Some (rw so_far.soft (get_or-map-range_with_len (objective_at done) 1 64 (k - 1) k (objective_at done k) (omega arith) (omega arith))) in
    let here : get_or d.objectives.items (k - 1) (objective_at done k) ≡ objective_at done k = get_or_from_slice_get d.objectives.items (k - 1) (objective_at done k) (objective_at done k) read in
    let new = added.softs (objective_at done k) read in
    let sum : slice_index d.sums (k - 1) ≡ weight_of done k = rw so_far.weights (weight_at done k some le) in
    record {
      hard = added.clauses ∙ so_far.hard ∙ sym (hard_clauses-append done (s ∷ []) ∙ append-nil (hard_clauses done));
      soft = new ∙ ap (λ os. set os (k - 1) (with_soft (objective_at done k) (record { weight = weight; lits = lits }))) so_far.soft ∙ soft_objectives done k weight lits some le;
      weights = added.sums ∙ ap (λ n. set d.sums (k - 1) (n + weight)) sum ∙ ap (λ ns. set ns (k - 1) (weight_of done k + weight)) so_far.weights ∙ soft_weights done k weight lits some le;
      variables = omega (arith, added.vars, so_far.variables, largest_variable_push done s);
      variables_within = omega (arith, added.vars, so_far.variables_within, small);
      number = omega (arith, added.count, so_far.number, objective_count_push done s);
      number_within = omega (arith, added.count, so_far.number_within, le);
    }

pub ready_soft : (d e : Draft) (k weight : ℕ) (lits : List Literal) → IsReady d → IsStatementWithin d.sums (SoftIn k weight lits) → AddsSoft d e k weight lits → IsReady e
ready_soft d e k weight lits ready within added =
    let lt : k - 1 < length d.objectives.items = omega (arith, ready.room, within.0, within.1) in
    let o = get_or d.objectives.items (k - 1) (objective_at [] 1) in
    let new = added.softs o (slice_get-get_or d.objectives.items (k - 1) (objective_at [] 1) lt) in
    record {
      room = rw new (length-set d.objectives.items (k - 1) (with_soft o (record { weight = weight; lits = lits })) ∙ ready.room);
      small = rw added.sums (All-set (λ sum. sum < 2 ^ 63) d.sums (k - 1) (slice_index d.sums (k - 1) + weight) within.2 ready.small);
    }
