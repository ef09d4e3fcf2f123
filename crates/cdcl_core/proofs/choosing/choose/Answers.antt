use Rattle.std.proofs.Common.{ℕ, ◌+◌, List, All, refl, sym, subst, map, take}
use Rattle.std.specs.Prelude.{IsSome}
use Rattle.std.specs.FinMap.{get}
use Rattle.std.proofs.lemmas.List.Elements.{All-push}
use Rattle.cdcl_core.specs.Ledgers.{IsPart}
use Rattle.cdcl_core.specs.declared.ledger.LearnedClause.{LearnedClause}
use Rattle.cdcl_core.proofs.Parts.{keep_one, skip_one, take_one}
use Rattle.cdcl_core.proofs.choosing.choose.Goals as goal
use Rattle.cdcl_core.proofs.choosing.choose.Goals.{then-is_stored+then-lt+in_ok-push, then-is_stored+else-lt+in_ok-push-2, else-is_stored}

pub loop-clause-preserved : goal.loop-clause-preserved
loop-clause-preserved g c =
    let inv = c.loop-clause.invariant in
    let clauses = c.args.clauses.now in
    let before = map (λ (x : LearnedClause). x.id) (take c.loop-clause.clause-index clauses) in
    let inside = c.loop-clause-test.true in
    let stored : ℕ → Type 0 = λ id. IsSome (get c.args.search.now.store id) in
    let part : List ℕ → Type 0 = λ ids. IsPart ids (map (λ (x : LearnedClause). x.id) (take (c.loop-clause.clause-index + 1) clauses)) in
    let kept_part : List LearnedClause → Type 0 = λ kept. part (map (λ (x : LearnedClause). x.id) kept) in
    elim c.if-is_stored.branch [
      | then-is_stored+then-lt+in_ok-push w ↦ record {
        named = subst part (sym w.named-is) (take_one c.loop-clause.named w.push.new.self clauses c.loop-clause.clause-index _ inside w.in_ok-push.ensures.ok inv.named);
        live = subst (All stored) (sym w.named-is) (subst (All stored) (sym w.in_ok-push.ensures.ok) (All-push stored c.loop-clause.named _ inv.live (c.is_stored.ensures.0 w.if-is_stored.true)));
        kept = subst kept_part (sym w.kept-is) (skip_one _ clauses c.loop-clause.clause-index inside inv.kept);
      }
      | then-is_stored+else-lt+in_ok-push-2 w ↦ record {
        named = subst part (sym w.named-is) (skip_one c.loop-clause.named clauses c.loop-clause.clause-index inside inv.named);
        live = subst (All stored) (sym w.named-is) inv.live;
        kept = subst kept_part (sym w.kept-is) (keep_one c.loop-clause.kept w.push-else-lt.new.self clauses c.loop-clause.clause-index _ _ inside w.in_ok-push-2.ensures.ok refl inv.kept);
      }
      | else-is_stored w ↦ record {
        named = subst part (sym w.named-is) (skip_one c.loop-clause.named clauses c.loop-clause.clause-index inside inv.named);
        live = subst (All stored) (sym w.named-is) inv.live;
        kept = subst kept_part (sym w.kept-is) (skip_one _ clauses c.loop-clause.clause-index inside inv.kept);
      }
    ]
