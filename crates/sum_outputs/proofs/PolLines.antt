-- Lines by cutting planes: they are legal where their tokens make something, and that is live under the next id.
use Rattle.std.proofs.Common.{◌≡◌, ◌⊎◌, inl, inr, ℕ, ◌+◌, ◌<◌, ◌≤◌, Bool, true, false, not, Option, None, Some, List, [], ◌∷◌, ◌++◌, refl, ap, sym, subst, ◌∙◌, arith, Ok}
use Rattle.std.specs.Prelude.{◌^◌, nat_lt, option_map}
use Rattle.std.specs.List.{All, find, flat_map}
use Rattle.std.specs.FinMap.{get, insert, get-insert}
use Rattle.std.specs.Cmp.{nat_cmp_total, unsigned_tied}
use Rattle.std.specs.Ordering.{nat_cmp, eq_by_cmp}
use Rattle.std.proofs.lemmas.Bool.{cond-true, cond-false, eq-eqb, le-ltb}
use Rattle.std.proofs.lemmas.List.Elements.{All-nil, All-cons, All-head, All-tail, All-append}
use Rattle.pb_lin.specs.Constraint.{ConstraintValue, size}
use Rattle.pb_lin.specs.Problem.{ProblemValue}
use Rattle.pb_lin.specs.LineMap.{LineMap}
use Rattle.cutting_planes.specs.Rules.{IsSum}
use Rattle.cutting_planes.specs.Stack.{IsValueOn, Answer}
use Rattle.cutting_planes.specs.declared.token.PolToken.{PolToken}
use Rattle.cutting_planes.specs.declared.token.PolToken.TheVariants.{Id, Add}
use Rattle.cutting_planes.proofs.OneValue.{at_most_one}
use Rattle.proof_laws.specs.State.{StateValue, IsState}
use Rattle.proof_laws.specs.Steps.{with_line}
use Rattle.proof_laws.specs.WellFormed.{IsToken}
use Rattle.proof_laws.specs.Refusal.{given_in, range_fault, fault_unless, token_variables, FirstOf, IsPolFault}
use Rattle.proof_laws.specs.Legal.{IsLegal, IsRefused, IsNext}
use Rattle.proof_laws.specs.Replay.{IsReplay}
use Rattle.proof_laws.specs.Earned.{IsLearnedId}
use Rattle.proof_laws.specs.declared.line.Line.{Line}
use Rattle.proof_laws.specs.declared.line.Line.TheVariants.{Pol}
use Rattle.proof_laws.specs.declared.why.Why.{Why}
use Rattle.proof_laws.specs.declared.why.Why.TheVariants.{AfterEnd, LogLong, VarRange}
use Rattle.proof_laws.proofs.NormalForms.{sum_exists}
use Rattle.proof_laws.proofs.Replays.{replay_before, replay_once}
use Rattle.proof_rules.specs.Recording.{Snapshot, MayBeAdded}
use Rattle.sum_outputs.specs.Adding.{IsOwn, IsReached, IsReady}
use Rattle.sum_outputs.specs.Laws.{AreTokensOf, LeavesOwn, PolMayBeAdded, SumMayBeAdded}
use Rattle.sum_outputs.proofs.LaterStates.{new_not_learned}
use Rattle.sum_outputs.proofs.Chains.{push_line, step, size_fine}

-- ---- it is legal

pub none_found : (n : ℕ) (vs : List ℕ) → All (λ v. v ≤ n) vs → range_fault n vs ≡ None
none_found n [] upto = refl
none_found n (v ∷ vs) upto =
    ap (option_map VarRange) (cond-false (nat_lt n v) (Some v) (find (λ w. nat_lt n w) vs) (le-ltb n v (All-head (λ w. w ≤ n) v vs upto)))
    ∙ none_found n vs (All-tail (λ w. w ≤ n) v vs upto)

-- the variables that tokens write
written_upto : (n : ℕ) (tokens : List PolToken) → All (λ t. All (λ v. v ≤ n) (token_variables t)) tokens → All (λ v. v ≤ n) (flat_map token_variables tokens)
written_upto n [] upto = All-nil (λ v. v ≤ n)
written_upto n (t ∷ ts) upto = All-append (λ v. v ≤ n) (token_variables t) (flat_map token_variables ts)
    (All-head (λ u. All (λ v. v ≤ n) (token_variables u)) t ts upto) (written_upto n ts (All-tail (λ u. All (λ v. v ≤ n) (token_variables u)) t ts upto))

-- a line by cutting planes that makes something is legal, unless there are too many lines
pol_legal : (p : ProblemValue) (s : StateValue) (tokens : List PolToken) (c : ConstraintValue) → s.ended ≡ false → AreTokensOf s tokens c → IsLegal p s (Pol tokens) ⊎ IsRefused p s (Pol tokens) LogLong
pol_legal p s tokens c unended are = by s.ended (nat_lt s.lines (2 ^ 61)) (range_fault s.vars (flat_map token_variables tokens)) unended (none_found s.vars (flat_map token_variables tokens) (written_upto s.vars tokens are.variables))
  where
    by : (e long : Bool) (range : Option Why) → e ≡ false → range ≡ None →
        FirstOf (fault_unless (not e) AfterEnd) (FirstOf (fault_unless long LogLong) (FirstOf range (IsPolFault s tokens))) None ⊎ FirstOf (fault_unless (not e) AfterEnd) (FirstOf (fault_unless long LogLong) (FirstOf range (IsPolFault s tokens))) (Some LogLong)
    by true long range e none = cc
    by false true None e none = inl (Ok c, are.value, refl)
    by false true (Some why) e none = cc
    by false false range e none = inr refl

pol_may_be_added : (a : Snapshot) (s : StateValue) (tokens : List PolToken) (c : ConstraintValue) → IsReady a → IsReached a s → AreTokensOf s tokens c → MayBeAdded a.problem a.lines (Pol tokens)
pol_may_be_added a s tokens c ready reached are t is =
    let same : s ≡ t = replay_once a.problem a.lines s t reached is in
    let same_ready : ready.state ≡ s = replay_once a.problem a.lines ready.state s ready.reached reached in
    let unended : s.ended ≡ false = subst (λ (u : StateValue). u.ended ≡ false) same_ready ready.unended in
    subst (λ (u : StateValue). IsLegal a.problem u (Pol tokens) ⊎ IsRefused a.problem u (Pol tokens) LogLong) same (pol_legal a.problem s tokens c unended are)

-- ---- what it leaves

pub put_live : (lines : LineMap) (id : ℕ) (c : ConstraintValue) → get (insert lines id c) id ≡ Some c
put_live lines id c = get-insert nat_cmp_total lines id c id ∙ cond-true (eq_by_cmp nat_cmp id id) (Some c) (get lines id) (unsigned_tied id id ∙ eq-eqb id id refl)

-- what the tokens make is live under the next id, and isn't learned
pub pol_leaves : (a : Snapshot) (s : StateValue) (tokens : List PolToken) (c : ConstraintValue) → IsReached a s → IsValueOn (given_in s None None) [] tokens (Ok c) → LeavesOwn a tokens c
pol_leaves a s tokens c reached value b t id problem lines after named =
    let again : IsReplay a.problem (a.lines ++ Pol tokens ∷ []) t = subst (λ (ls : List Line). IsReplay a.problem ls t) lines (subst (λ (p : ProblemValue). IsReplay p b.lines t) problem after) in
    let next : IsNext a.problem s (Pol tokens) t = replay_before a.problem a.lines (Pol tokens) s t reached again in
    let makes = next.makes in
    let answers : ◌≡◌ {A = Answer} (Ok makes.0) (Ok c) = at_most_one (given_in s None None) tokens (Ok makes.0) (Ok c) makes.1 value in
    let same : makes.0 ≡ c = cc in
    let state_is : t ≡ with_line s c = makes.2 ∙ ap (λ (d : ConstraintValue). with_line s d) same in
    let live : get t.live s.next_id ≡ Some c = ap (λ (u : StateValue). get u.live s.next_id) state_is ∙ put_live s.live s.next_id c in
    let here : IsOwn b.problem b.lines t s.next_id c = (
      live,
      λ learned.
          not_learned_now (subst (λ (ls : List Line). IsLearnedId a.problem ls s.next_id) lines (subst (λ (p : ProblemValue). IsLearnedId p b.lines s.next_id) problem learned)),
    ) in
    subst (λ (i : ℕ). IsOwn b.problem b.lines t i c) (sym (named s reached)) here
  where
    not_learned_now : IsLearnedId a.problem (a.lines ++ Pol tokens ∷ []) s.next_id → ⊥
    not_learned_now learned = new_not_learned a.problem a.lines (Pol tokens) s reached refl learned

pub pol_may_be_added_law : PolMayBeAdded
pol_may_be_added_law a s tokens c ready reached are = record {
  formed = are.formed;
  kind = tt;
  legal = pol_may_be_added a s tokens c ready reached are;
  own = pol_leaves a s tokens c reached are.value;
}

-- ---- two lines

-- ids are small
pub id_small : (s : StateValue) → IsState s → (id : ℕ) (c : ConstraintValue) → get s.live id ≡ Some c → id < 2 ^ 63
id_small s state id c is = let w = state.ids id c is in let n = state.next_id in let l = state.lines in omega arith

abbrev two : ℕ → ℕ → List PolToken
two i j = Id i ∷ Id j ∷ Add ∷ []

two_all : (P : PolToken → Type 0) (i j : ℕ) → P (Id i) → P (Id j) → P Add → All P (two i j)
two_all P i j first second add = All-cons P (Id i) (Id j ∷ Add ∷ []) first (All-cons P (Id j) (Add ∷ []) second (All-cons P Add [] add (All-nil P)))

-- their sum is what the tokens make
two_value : (s : StateValue) (i j : ℕ) (c d r : ConstraintValue) → get s.live i ≡ Some c → get s.live j ≡ Some d → size c + size d ≤ 2 ^ 100 → IsSum r c d → IsValueOn (given_in s None None) [] (two i j) (Ok r)
two_value s i j c d r first second fits sum =
    let given = given_in s None None in
    let added : IsValueOn given (d ∷ c ∷ []) (Add ∷ []) (Ok r) = step given Add (d ∷ c ∷ []) (r ∷ []) [] (Ok r) (size_fine (size c + size d) fits) (r, sum, refl) refl in
    push_line given i c [] (Id j ∷ Add ∷ []) (Ok r) first (push_line given j d (c ∷ []) (Add ∷ []) (Ok r) second added)

pub sum_may_be_added_law : SumMayBeAdded
sum_may_be_added_law a s i j c d ready reached state first second fits =
    let made = sum_exists c d (state.normal i c first) (state.normal j d second) fits in
    let are : AreTokensOf s (two i j) made.0 = record {
      formed = (λ e. cc, two_all IsToken i j (id_small s state i c first) (id_small s state j d second) tt);
      variables = two_all (λ t. All (λ v. v ≤ s.vars) (token_variables t)) i j (All-nil (λ v. v ≤ s.vars)) (All-nil (λ v. v ≤ s.vars)) (All-nil (λ v. v ≤ s.vars));
      value = two_value s i j c d made.0 first second fits made.1;
    } in
    (made.0, made.1, pol_may_be_added_law a s (two i j) made.0 ready reached are)
