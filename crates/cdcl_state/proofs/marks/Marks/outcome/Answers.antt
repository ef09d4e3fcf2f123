use Rattle.std.specs.Prelude.{◌≢◌}
use Rattle.std.proofs.Common.{rules, sym, subst}
use Rattle.std.specs.List.{AllPairs}
use Rattle.std.proofs.lemmas.List.Sorted.{IsNonDecreasingBy-from_sort_by_key}
use Rattle.scut_base.specs.Literal.{Literal}
use Rattle.scut_base.proofs.Lists.{AllApart-from_pairs, AllApart-IsPermutation, rising_from_distinct}
use Rattle.cdcl_state.specs.Walking.{IsOutcome}
use Rattle.cdcl_state.proofs.Collecting.{apart_pushed, outcome_from}
use Rattle.cdcl_state.proofs.marks.Marks.outcome.Goals as goal

pub returns : goal.returns
returns c =
    let t = c.args.trail.now in
    let places = c.args.self.now.places in
    let distinct = subst (AllPairs {X = Literal} (λ l m. l.var ≢ m.var)) (sym (c.in_ok-push.ensures).items) (apart_pushed t c.args.reach c.args.self.now.on.items places c.in_ok-lits.lits.items c.args.more c.in_ok-lits.ensures c.requires.apart) in
    let rising = rising_from_distinct {X = Literal} (λ l. l.var) _
    (IsNonDecreasingBy-from_sort_by_key (λ l. l.var) _ c.sort_unstable_by_key.ensures.sorted (λ a r q k. search rules))
    (AllApart-IsPermutation {X = Literal} (λ l m. l.var ≢ m.var) _ _ c.sort_unstable_by_key.ensures.permutation (AllApart-from_pairs {X = Literal} (λ l m. l.var ≢ m.var) _ (λ x y other e. other (sym e)) distinct)) in
    subst (IsOutcome t c.args.reach c.args.self.now.on.items places c.args.more) (sym c.from_vec.ensures)
    (outcome_from t c.args.reach c.args.self.now.on.items places c.in_ok-lits.lits.items _ _ c.args.more c.in_ok-lits.ensures (c.in_ok-push.ensures).items c.sort_unstable_by_key.ensures.permutation rising)
