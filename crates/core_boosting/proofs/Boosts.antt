-- Objectives that are boosted, one after the other.
use Rattle.std.proofs.Common.{◌≡◌, ◌⊎◌, inl, inr, ⊎_elim, ℕ, suc, ◌-◌, ◌<◌, ◌≤◌, ◌^◌, false, List, [], ◌∷◌, ◌++◌, length, get_or, refl, ap, sym, subst, ◌∙◌, arith, append-nil, pos, Ok}
use Rattle.std.specs.List.{All, AllZip}
use Rattle.std.proofs.lemmas.Bool.{cases_lt}
use Rattle.std.proofs.lemmas.List.{get_or_append_left, get_or-append_right, get_or_default, length-append}
use Rattle.std.proofs.lemmas.List.Elements.{All-nil, All-cons}
use Rattle.pb_lin.specs.CostRow.{CostRowValue}
use Rattle.pb_lin.specs.Problem.{ProblemValue, IsProblem}
use Rattle.proof_laws.specs.State.{StateValue}
use Rattle.proof_laws.specs.WellFormed.{IsWellFormed}
use Rattle.proof_laws.specs.Replay.{IsReplay}
use Rattle.proof_laws.specs.Earned.{HasBoosted, IsBoosted, is_sol}
use Rattle.proof_laws.specs.declared.line.Line.{Line}
use Rattle.proof_laws.specs.declared.line.Line.TheVariants.{Pol, Rup, Learn, Def, Red, Dom, Sol, Del, Reduce, End}
use Rattle.proof_laws.proofs.NextKept.{replay_law}
use Rattle.proof_rules.specs.Recording.{Snapshot}
use Rattle.sum_outputs.specs.Adding.{IsReached}
use Rattle.totalizer.specs.Keeping.{KeepsOwn}
use Rattle.totalizer.specs.Reforming.{IsReformOf}
use Rattle.totalizer.specs.declared.reform.Reform.{Reform}
use Rattle.totalizer.proofs.LawsKept.{reform_stays_law}
use Rattle.search_base.specs.CostBounds.{AreReforms}
use Rattle.search_base.specs.Laws.{IsPrepared}
use Rattle.search_base.specs.Logged.{LogsNone, logged}
use Rattle.search_base.proofs.LoggedVectors.{reached_law}
use Rattle.search_base.proofs.TurnLines.{own_law}
use Rattle.core_boosting.specs.Boosting.{BoostsFirst, BoostsOn, EndsBoosting, EndsEarly, HasLeastOffset, HaveLeastOffsets, IsContradicted, IsReformNow, MayBoost, ReachesOffset}
use Rattle.core_boosting.proofs.Boosted.{early_is_boosted, early_stays}
use Rattle.core_boosting.proofs.Optima.{least_bounded, least_offset}

-- ---- lines that log nothing

no_sol : (p : ProblemValue) (lines : List Line) → logged p lines ≡ [] → All (λ line. is_sol line ≡ false) lines
no_sol p [] none = All-nil (λ line. is_sol line ≡ false)
no_sol p (Sol model cut ids ∷ lines) none = cc
no_sol p (Pol tokens ∷ lines) none = All-cons (λ line. is_sol line ≡ false) (Pol tokens) lines refl (no_sol p lines none)
no_sol p (Rup goal hints ∷ lines) none = All-cons (λ line. is_sol line ≡ false) (Rup goal hints) lines refl (no_sol p lines none)
no_sol p (Learn goal hints ∷ lines) none = All-cons (λ line. is_sol line ≡ false) (Learn goal hints) lines refl (no_sol p lines none)
no_sol p (Def var sum ∷ lines) none = All-cons (λ line. is_sol line ≡ false) (Def var sum) lines refl (no_sol p lines none)
no_sol p (Red goal w proofs ∷ lines) none = All-cons (λ line. is_sol line ≡ false) (Red goal w proofs) lines refl (no_sol p lines none)
no_sol p (Dom goal w proofs ∷ lines) none = All-cons (λ line. is_sol line ≡ false) (Dom goal w proofs) lines refl (no_sol p lines none)
no_sol p (Del ids ∷ lines) none = All-cons (λ line. is_sol line ≡ false) (Del ids) lines refl (no_sol p lines none)
no_sol p (Reduce ids ∷ lines) none = All-cons (λ line. is_sol line ≡ false) (Reduce ids) lines refl (no_sol p lines none)
no_sol p (End id ∷ lines) none = All-cons (λ line. is_sol line ≡ false) (End id) lines refl (no_sol p lines none)

-- lines that log nothing and lead to such a state are boosted
boosted_here : (a : Snapshot) → IsPrepared a → (s : StateValue) → IsReached a s → HasBoosted a.problem s → IsBoosted a.problem a.lines
boosted_here a prepared s reached has =
    (a.lines, [], s, sym (append-nil a.lines), no_sol a.problem a.lines prepared.none, reached, has)

-- lines that log nothing and lead to such a state end early
early_here : (a : Snapshot) → IsPrepared a → (s : StateValue) → IsReached a s → IsContradicted s ⊎ (2 ^ 40 < s.vars) → EndsEarly a.problem a.lines
early_here a prepared s reached early =
    (a.lines, [], s, sym (append-nil a.lines), no_sol a.problem a.lines prepared.none, reached, early)

-- ---- what a call keeps

pub still_prepared : (a b : Snapshot) → IsPrepared a → MayBoost b → b.problem ≡ a.problem → LogsNone a.problem a.lines b.lines → IsPrepared b
still_prepared a b prepared may problem none = record {
  ready = may.ready;
  none = ap (λ (p : ProblemValue). logged p b.lines) problem ∙ none ∙ prepared.none;
  earned = may.earned;
  within = may.within;
}

pub may_boost : (a : Snapshot) → IsPrepared a → MayBoost a
may_boost a prepared = record { ready = prepared.ready; earned = prepared.earned; within = prepared.within }

-- ---- one objective more

pub boosts_none : (a : Snapshot) → IsPrepared a → BoostsFirst a []
boosts_none a prepared = record {
  prepared = prepared;
  most = omega arith;
  each = λ k d e short. absurd (omega arith);
  least = inr (λ k d e short. absurd (omega arith));
}

module _ {T : Type 0} (a b : Snapshot) (p : ProblemValue) (problem : IsProblem p) (same : a.problem ≡ p) (reforms : List Reform) (first : BoostsFirst a reforms)
    (there : length reforms < length p.costs) (formed : All IsWellFormed b.lines) (x : T) (boosts : BoostsOn {T = T} a b (Ok x))
    (r : Reform) (is : (d : CostRowValue) → IsReformNow b (get_or p.costs (length reforms) d) r)
    (ends : (s : StateValue) → IsReplay p b.lines s → EndsBoosting p r.terms s) where
  problem_now : b.problem ≡ p
  problem_now = boosts.goes_on.problem ∙ same

  prepared : IsPrepared b
  prepared = still_prepared a b first.prepared (boosts.may tt) boosts.goes_on.problem boosts.none

  abbrev s : StateValue
  s = prepared.ready.state

  reached : IsReplay p b.lines s
  reached = subst (λ (q : ProblemValue). IsReplay q b.lines s) problem_now prepared.ready.reached

  abbrev all : List Reform
  all = reforms ++ r ∷ []

  keeps : KeepsOwn a.problem a.lines b.lines
  keeps = own_law a.problem a.lines b.lines boosts.goes_on.lines

  early : (k : ℕ) (e : Reform) → k < length reforms → get_or all k e ≡ get_or reforms k e
  early k e short = get_or_append_left reforms (r ∷ []) e k short

  late : (k : ℕ) (e : Reform) → length reforms ≤ k → k < length all → (k ≡ length reforms) × (get_or all k e ≡ r)
  late k e from short =
      let long = length-append reforms (r ∷ []) in
      let here : k ≡ length reforms = omega arith in (
        here,
        get_or-append_right reforms (r ∷ []) (length reforms) k e refl from
            ∙ ap (λ (j : ℕ). get_or (r ∷ []) j e) (let z : k - length reforms ≡ 0 = omega arith in z),
      )

  abbrev IsAt : ℕ → CostRowValue → Reform → Type 0
  IsAt k d q = IsReformNow b (get_or b.problem.costs k d) q

  each : (k : ℕ) (d : CostRowValue) (e : Reform) → k < length all → IsAt k d (get_or all k e)
  each k d e short = ⊎_elim
      (λ (before : k < length reforms). subst (IsAt k d) (sym (early k e before)) (λ t after.
      subst (λ (q : ProblemValue). IsReformOf q b.lines t (get_or b.problem.costs k d) (get_or reforms k e)) (sym boosts.goes_on.problem)
      (subst (λ (q : ProblemValue). IsReformOf a.problem b.lines t (get_or q.costs k d) (get_or reforms k e)) (sym boosts.goes_on.problem)
      (reform_stays_law a.problem a.lines b.lines first.prepared.ready.state t (get_or a.problem.costs k d) (get_or reforms k e) keeps
      first.prepared.ready.reached (subst (λ (q : ProblemValue). IsReplay q b.lines t) boosts.goes_on.problem after)
      (first.each k d e before first.prepared.ready.state first.prepared.ready.reached)))))
      (λ (from : length reforms ≤ k).
      let at = late k e from short in
      subst (IsAt k d) (sym at.1)
      (subst (λ (q : ProblemValue). IsReformNow b (get_or q.costs k d) r) (sym problem_now)
      (subst (λ (j : ℕ). IsReformNow b (get_or p.costs j d) r) (sym at.0) (is d))))
      (cases_lt k (length reforms))

  abbrev HasLeast : ProblemValue → ℕ → CostRowValue → Reform → Type 0
  HasLeast q k d f = HasLeastOffset q (get_or q.costs k d) f

  abbrev AllLeast : Type 0
  AllLeast = (k : ℕ) (d : CostRowValue) (e : Reform) → k < length all → HasLeast b.problem k d (get_or all k e)

  -- its offset is reached
  least_now : (d : CostRowValue) → ReachesOffset p r.terms s → HasLeastOffset p (get_or p.costs (length reforms) d) r
  least_now d reaches =
      let row = get_or p.costs (length reforms) d in
      let sols : s.sols ≡ [] = reached_law b.problem b.lines s prepared.ready.reached ∙ prepared.none in
      least_offset p b.lines s row r problem (replay_law p b.lines s problem formed reached) sols
      (length reforms, there, get_or_default p.costs (length reforms) row d there)
      (subst (λ (q : ProblemValue). IsReformOf q b.lines s row r) problem_now (is d s prepared.ready.reached)) reaches

  all_least : ((k : ℕ) (d : CostRowValue) (e : Reform) → k < length reforms → HasLeast a.problem k d (get_or reforms k e)) → ReachesOffset p r.terms s → AllLeast
  all_least old reaches k d e short = ⊎_elim
      (λ (before : k < length reforms). subst (HasLeast b.problem k d) (sym (early k e before))
      (subst (λ (q : ProblemValue). HasLeast q k d (get_or reforms k e)) (sym boosts.goes_on.problem) (old k d e before)))
      (λ (from : length reforms ≤ k).
      let at = late k e from short in
      subst (HasLeast b.problem k d) (sym at.1)
      (subst (λ (q : ProblemValue). HasLeast q k d r) (sym problem_now)
      (subst (λ (j : ℕ). HasLeastOffset p (get_or p.costs j d) r) (sym at.0) (least_now d reaches))))
      (cases_lt k (length reforms))

  early_now : IsContradicted s ⊎ (2 ^ 40 < s.vars) → EndsEarly b.problem b.lines
  early_now = early_here b prepared s prepared.ready.reached

  early_before : EndsEarly a.problem a.lines → EndsEarly b.problem b.lines
  early_before old =
      let adds = boosts.goes_on.lines in
      subst (λ (q : ProblemValue). EndsEarly q b.lines) (sym boosts.goes_on.problem)
      (subst (λ (ls : List Line). EndsEarly a.problem ls) (sym adds.is) (early_stays a.problem a.lines adds.more old))

  least : EndsEarly b.problem b.lines ⊎ AllLeast
  least = by (ends s reached) first.least
    where
      by : EndsBoosting p r.terms s → EndsEarly a.problem a.lines ⊎ ((k : ℕ) (d : CostRowValue) (e : Reform) → k < length reforms → HasLeast a.problem k d (get_or reforms k e))
          → EndsEarly b.problem b.lines ⊎ AllLeast
      by end (inl old) = inl (early_before old)
      by (inl empty) (inr old) = inl (early_now (inl empty))
      by (inr (inl many)) (inr old) = inl (early_now (inr many))
      by (inr (inr reaches)) (inr old) = inr (all_least old reaches)

  pub boosts_more : BoostsFirst b all
  boosts_more = record {
    prepared = prepared;
    most = let long = length-append reforms (r ∷ []) in let same_costs = ap (λ (q : ProblemValue). length q.costs) problem_now in omega arith;
    each = each;
    least = least;
  }

-- ---- all objectives

module _ (a : Snapshot) (problem : IsProblem a.problem) (reforms : List Reform) (first : BoostsFirst a reforms) (count : length reforms ≡ length a.problem.costs) where
  zipped : (rows : List CostRowValue) (rs : List Reform) (R : CostRowValue → Reform → Type 0) → length rs ≡ length rows →
      ((k : ℕ) (d : CostRowValue) (e : Reform) → k < length rs → R (get_or rows k d) (get_or rs k e)) → AllZip R rows rs
  zipped [] [] R same each = tt
  zipped [] (r ∷ rs) R same each = absurd (omega arith)
  zipped (q ∷ rows) [] R same each = absurd (omega arith)
  zipped (q ∷ rows) (r ∷ rs) R same each = (each 0 q r (omega arith), zipped rows rs R (omega arith) (λ k d e short. each (suc k) d e (omega arith)))

  pub are_reforms : AreReforms a reforms
  are_reforms = record {
    rows = problem.cost_rows;
    count = count;
    each = λ s reached. zipped a.problem.costs reforms (IsReformOf a.problem a.lines s) count (λ k d e short. first.each k d e short s reached);
  }

  pub have_least : HaveLeastOffsets a.problem a.lines reforms
  have_least = ⊎_elim (λ (early : EndsEarly a.problem a.lines). inl early)
      (λ least. inr (zipped a.problem.costs reforms (HasLeastOffset a.problem) count (λ k d e short. least k d e short)))
      first.least

  pub are_boosted : IsBoosted a.problem a.lines
  are_boosted = ⊎_elim (early_is_boosted a.problem a.lines)
      (λ least. boosted_here a first.prepared first.prepared.ready.state first.prepared.ready.reached (inr (inr (λ k d short.
      let e = any_reform k in
      let has = least k d e (omega arith) in (
        has.0,
        has.1,
        least_bounded a.problem a.lines first.prepared.ready.state (get_or a.problem.costs k d) (get_or reforms k e)
            (first.each k d e (omega arith) first.prepared.ready.state first.prepared.ready.reached) has.0 has.2,
      )))))
      first.least
    where
      any_reform : ℕ → Reform
      any_reform k = record { offset = pos 0; terms = []; lower_line = 0; upper_line = 0 }
