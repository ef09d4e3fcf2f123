-- A core that is taken up, and what it makes of an objective in other terms.
use Rattle.std.proofs.Common.{◌≡◌, inr, ℕ, ◌<◌, ◌≤◌, ◌==◌, Bool, true, false, if◌then◌else◌, None, Some, List, [], map, get_or, refl, ap, sym, subst, ◌∙◌, arith, pos, ◌+ℤ◌}
use Rattle.std.specs.Prelude.{◌^◌, ◌<ℤ◌, Contains, nat_lt}
use Rattle.std.specs.List.{All}
use Rattle.std.specs.FinMap.{get}
use Rattle.std.proofs.lemmas.Bool.{cond-false, eqb-true, ne_eqb}
use Rattle.std.proofs.lemmas.Int.{ints}
use Rattle.std.proofs.lemmas.List.{length-map}
use Rattle.std.proofs.lemmas.List.Elements.{All-append, All-filter, All-map}
use Rattle.scut_base.specs.Literal.{Literal}
use Rattle.pb_lin.specs.Constraint.{ConstraintValue, IsNormal, IsVariable, literals, opposite, total, value}
use Rattle.pb_lin.specs.CostRow.{CostRowValue}
use Rattle.pb_lin.specs.Problem.{ProblemValue}
use Rattle.pb_lin.proofs.Ones.{rising-literals}
use Rattle.cutting_planes.specs.declared.token.PolToken.{PolToken}
use Rattle.cutting_planes.proofs.Terms.{Terms}
use Rattle.proof_laws.specs.State.{StateValue, IsState}
use Rattle.proof_laws.specs.Refusal.{given_in, line_or_none}
use Rattle.proof_laws.specs.Replay.{IsReplay}
use Rattle.proof_laws.proofs.Replays.{replay_once}
use Rattle.proof_rules.specs.Recording.{Snapshot}
use Rattle.sum_outputs.specs.Adding.{Continues, IsLater, IsOwn, IsReached, IsReady}
use Rattle.sum_outputs.specs.Laws.{AreTokensOf}
use Rattle.sum_outputs.specs.Totals.{AreWeights}
use Rattle.sum_outputs.proofs.PolLines.{id_small}
use Rattle.sum_outputs.proofs.ReplayIds.{replay_ids}
use Rattle.totalizer.specs.Keeping.{KeepsOwn}
use Rattle.totalizer.specs.Meaning.{IsOwnOrNone}
use Rattle.totalizer.specs.Reforming.{IsReformOf}
use Rattle.totalizer.specs.declared.reform.Reform.{Reform}
use Rattle.totalizer.proofs.LaterLines.{held_before, variable_stays}
use Rattle.totalizer.proofs.LawsKept.{reform_stays_law}
use Rattle.totalizer.proofs.OwnLines.{own_lines_stay_law}
use Rattle.search_base.proofs.BoundLines.{named_normal}
use Rattle.search_base.proofs.TurnLines.{own_law, totalizer_lines}
use Rattle.core_boosting.specs.declared.counting.Counted.{Counted}
use Rattle.core_boosting.specs.Boosting.{HasCoreLine}
use Rattle.core_boosting.specs.Counting.{CountsCore, HasCore, counting}
use Rattle.core_boosting.specs.Exchanging.{AllWeigh, CanExchange, CanLower, DerivesOwn, IsExactly, IsOfRow, KeepsRow, LowersOn, MayExchange, exchanged, lower_tokens, lowered, remaining}
use Rattle.core_boosting.proofs.Exchanges.{exchange_sums}
use Rattle.core_boosting.proofs.Literals.{AreRising, clause_counted, no_more_than}
use Rattle.core_boosting.proofs.Lowering.{greatest_stays, line_lowers, upper_stays}
use Rattle.core_boosting.proofs.TokenLists.{lower_are}

-- ---- an objective in other terms stays one

-- where lines keep what no line has learned
pub exactly_kept : (a b : Snapshot) (s : StateValue) → b.problem ≡ a.problem → KeepsOwn a.problem a.lines b.lines →
    IsReached a s → (row : CostRowValue) (r : Reform) → IsExactly a row r → IsExactly b row r
exactly_kept a b s problem keeps reached row r is = record {
  is_row = is.is_row;
  greatest = is.greatest;
  reform = λ t after. subst (λ (p : ProblemValue). IsReformOf p b.lines t row r) (sym problem)
      (reform_stays_law a.problem a.lines b.lines s t row r keeps reached
      (subst (λ (p : ProblemValue). IsReplay p b.lines t) problem after) (is.reform s reached));
}

-- whatever line is named as its upper one
pub exactly_named : (a : Snapshot) (row : CostRowValue) (r : Reform) (id : ℕ) → IsExactly a row r
    → IsExactly a row (record { offset = r.offset; terms = r.terms; lower_line = r.lower_line; upper_line = id })
exactly_named a row r id is = record {
  is_row = is.is_row;
  greatest = is.greatest;
  reform = λ s reached. let old = is.reform s reached in record {
    weights = old.weights;
    variables = old.variables;
    offset = old.offset;
    small = old.small;
    own = old.own;
    lower = old.lower;
    upper = old.upper;
  };
}

pub exactly_stays : (a b : Snapshot) → IsReady a → Continues a b → (row : CostRowValue) (r : Reform) → IsExactly a row r → IsExactly b row r
exactly_stays a b ready on = exactly_kept a b ready.state on.problem
    (own_law a.problem a.lines b.lines (totalizer_lines a b on)) ready.reached

-- ---- the core's literals

module _ (a : Snapshot) (s : StateValue) (reached : IsReached a s) (state : IsState s) (terms : Terms) (id : ℕ) (has : HasCoreLine terms id s) where
  abbrev line : ConstraintValue
  line = has.core.line

  abbrev lits : List Literal
  lits = literals line.terms

  normal : IsNormal line.terms line.degree
  normal = state.normal id line has.core.live

  pub core_rising : AreRising lits
  core_rising = rising-literals line.terms normal.merged.rising

  within : All (λ l. IsVariable s.vars l.var) lits
  within = All-map (λ l. IsVariable s.vars l.var) (λ t. t.0) line.terms
      (λ k d short. (normal.merged.from_one k d short, state.variables id line has.core.live k d short))

  pub has_core : HasCore a lits id
  has_core = record {
    some = let long = length-map line.terms (λ (t : Literal × ℕ). t.0) in let some = has.core.some in omega arith;
    few =
        let most = no_more_than lits s.vars (λ k d short. (within k d short).0) (λ k d short. (within k d short).1) core_rising in
        let few = has.few in
        omega arith;
    rising = core_rising;
    variables = λ t after. subst (λ (u : StateValue). All (λ l. IsVariable u.vars l.var) lits) (replay_once a.problem a.lines s t reached after) within;
    line = λ t after. subst (λ (u : StateValue). get u.live id ≡ Some (counting lits [])) (replay_once a.problem a.lines s t reached after)
        (has.core.live ∙ ap (λ (c : ConstraintValue). Some c) (clause_counted line has.core.clause));
  }

-- ---- what may be exchanged

module _ (a b : Snapshot) (ready : IsReady a) (on : Continues a b) (r : Reform) (row : IsOfRow a r) (lits : List Literal)
    (w : ℕ) (c : Counted) (among : All (Contains (literals r.terms)) lits) (rising : AreRising lits) (some : 0 < w)
    (least : AllWeigh lits w r.terms) (counts : CountsCore a b lits c) where
  reform_here : IsReformOf a.problem a.lines ready.state row.0 r
  reform_here = row.1.reform ready.state ready.reached

  can : CanExchange r.terms lits c.outputs w
  can = record {
    weights = reform_here.weights;
    some = some;
    among = among;
    least = least;
    apart = rising;
    fewer = counts.fewer;
    rising = counts.rising;
    above = λ k d short i e inside.
        let new = counts.new ready.state ready.reached k d short in
        let old = reform_here.variables i e inside in
        let most = old.1 in
        omega arith;
    from_one = λ k d short. let new = counts.new ready.state ready.reached k d short in omega arith;
  }

  pub may_exchange : MayExchange b r lits c w
  may_exchange = record {
    row = (row.0, exactly_stays a b ready on row.0 r row.1);
    exchange = can;
    variables = counts.variables;
    follow = counts.follow;
    line = counts.line;
  }

-- ---- the exchange

named_small : (s : StateValue) → IsState s → (id : ℕ) (c : ConstraintValue) → line_or_none s.live id ≡ Some c → id < 2 ^ 63
named_small s state id c = by (id == 0) refl
  where
    by : (b : Bool) → (id == 0) ≡ b → (if b then Some (record { terms = []; degree = 0 }) else get s.live id) ≡ Some c → id < 2 ^ 63
    by true e is = let same = eqb-true id 0 e in omega arith
    by false e is = id_small s state id c is

named_live : (s : StateValue) (id : ℕ) (c : ConstraintValue) → 0 < id → get s.live id ≡ Some c → line_or_none s.live id ≡ Some c
named_live s id c some is =
    cond-false (id == 0) (Some (record { terms = []; degree = 0 })) (get s.live id) (ne_eqb id 0 (λ e. omega arith)) ∙ is

module _ (a : Snapshot) (r : Reform) (lits : List Literal) (c : Counted) (w : ℕ) (may : MayExchange a r lits c w) where
  abbrev new_terms : Terms
  new_terms = exchanged lits w c.outputs r.terms

  abbrev tokens : List PolToken
  tokens = lower_tokens r.lower_line c.line w

  abbrev core : ConstraintValue
  core = counting lits (map opposite c.outputs)

  weight_most : w ≤ total r.terms
  weight_most =
      let sums = exchange_sums r.terms lits c.outputs w may.exchange in
      let falls = sums.falls in
      omega arith

  pub weight_small : w < 2 ^ 63
  weight_small = let most = weight_most in let weights = may.exchange.weights in let small = weights.small in omega arith

  module _ (s : StateValue) (reached : IsReached a s) (state : IsState s) where
    module _ (row : CostRowValue) (is : IsExactly a row r) where
      reform : IsReformOf a.problem a.lines s row r
      reform = is.reform s reached

      can_lower : CanLower (given_in s None None) row r.offset r.terms lits c.outputs w r.lower_line c.line
      can_lower = record {
        exchange = may.exchange;
        small = let is_row = is.is_row in is_row.small;
        most = reform.offset;
        greatest = is.greatest;
        before = reform.lower.0;
        named = reform.lower.1;
        normal = named_normal s state r.lower_line reform.lower.0 reform.lower.1;
        lower = reform.lower.2;
        counts = may.line s reached;
        counts_normal = state.normal c.line core (may.line s reached);
      }

      lowers : LowersOn (given_in s None None) row r.offset new_terms r.lower_line c.line w
      lowers = line_lowers (given_in s None None) row r.offset r.terms lits c.outputs w r.lower_line c.line can_lower

    pub makes_line : (made : ConstraintValue) × AreTokensOf s tokens made
    makes_line =
        let row = may.row in
        let l = lowers row.0 row.1 in
        let f = reform row.0 row.1 in (
          l.made,
          lower_are s r.lower_line c.line w l.made (named_small s state r.lower_line f.lower.0 f.lower.1)
              (id_small s state c.line core (may.line s reached)) weight_small l.tokens,
        )

    -- the offset fits
    pub offset_fits : (r.offset +ℤ pos w) <ℤ pos (2 ^ 63)
    offset_fits =
        let row = may.row in
        let f = reform row.0 row.1 in
        let small = f.small in
        let most = weight_most in
        omega (arith, ints)

    module _ (b : Snapshot) (on : Continues a b) (id : ℕ) (own : DerivesOwn a b tokens id) (now : Reform)
        (offset : now.offset ≡ r.offset +ℤ pos w) (terms : now.terms ≡ new_terms) (line : now.lower_line ≡ id) where
      module _ (row : CostRowValue) (is : IsExactly a row r) (t : StateValue) (after : IsReached b t) where
        again : IsReplay a.problem b.lines t
        again = subst (λ (p : ProblemValue). IsReplay p b.lines t) on.problem after

        later : IsLater a.problem a.lines s b.lines t
        later = own_lines_stay_law a.problem a.lines b.lines s t (own_law a.problem a.lines b.lines (totalizer_lines a b on)) reached again

        abbrev made : ConstraintValue
        made = (lowers row is).made

        owned : IsOwn a.problem b.lines t id made
        owned = subst (λ (p : ProblemValue). IsOwn p b.lines t id made) on.problem (own s t made reached after (lowers row is).tokens)

        abbrev HasVariable : Literal × ℕ → Type 0
        HasVariable u = IsVariable t.vars u.0.var

        new_variables : All HasVariable new_terms
        new_variables = All-append HasVariable (remaining lits w r.terms) (map (λ l. (l, w)) c.outputs)
            (All-filter (λ u. nat_lt 0 u.1) HasVariable (map (lowered lits w) r.terms)
            (All-map HasVariable (lowered lits w) r.terms
            (λ k d short. variable_stays a.problem a.lines b.lines s t later (get_or r.terms k d).0.var ((reform row is).variables k d short))))
            (All-map HasVariable (λ l. (l, w)) c.outputs
            (λ k d short. variable_stays a.problem a.lines b.lines s t later (get_or c.outputs k d).var (may.variables s reached k d short)))

        new_reform : IsReformOf a.problem b.lines t row now
        new_reform =
            let f = reform row is in
            let sums = exchange_sums r.terms lits c.outputs w may.exchange in
            let falls = sums.falls in
            record {
              weights = subst (λ (ts : Terms). AreWeights ts) (sym terms) sums.weights;
              variables = subst (λ (ts : Terms). All HasVariable ts) (sym terms) new_variables;
              offset = let most = f.offset in omega (arith, ints);
              small = let small = f.small in let same = ap (λ (ts : Terms). total ts) terms in omega (arith, ints);
              own = subst (λ (i : ℕ). IsOwnOrNone a.problem b.lines t i) (sym line) (inr (made, owned));
              lower = (
                made,
                ap (λ (i : ℕ). line_or_none t.live i) line ∙ named_live t id made (let ids = (replay_ids b.problem b.lines t after).ids id made owned.0 in ids.0) owned.0,
                λ x.
                    let here = (lowers row is).lower x in
                    let same = ap (λ (ts : Terms). value x ts) terms in
                    omega (arith, ints),
              );
              upper = λ x rows hold.
                  let held = held_before a.problem a.lines b.lines s t later x hold in
                  let here = upper_stays row r.offset r.terms lits c.outputs w x may.exchange (may.follow s reached x held) (f.upper x rows held) in
                  let same = ap (λ (ts : Terms). value x ts) terms in
                  omega (arith, ints);
            }

      pub keeps_row : KeepsRow a b r now
      keeps_row row is = record {
        is_row = is.is_row;
        greatest =
            let here = greatest_stays row r.offset r.terms lits c.outputs w may.exchange is.greatest in
            let same = ap (λ (ts : Terms). total ts) terms in
            omega (arith, ints);
        reform = λ t after. subst (λ (p : ProblemValue). IsReformOf p b.lines t row now) (sym on.problem) (new_reform row is t after);
      }
