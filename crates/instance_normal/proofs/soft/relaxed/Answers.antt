use Rattle.std.proofs.Common.{◌≡◌, ◌-◌, ◌<◌, ◌≤◌, ◌++◌, ◌∷◌, [], pos, to_z, sym, ap, ◌∙◌, subst, arith}
use Rattle.std.specs.Prelude.{AllPairs}
use Rattle.std.specs.Int.{w64}
use Rattle.std.proofs.lemmas.Int.{ints}
use Rattle.std.proofs.lemmas.List.Elements.{All-weaker, All-push}
use Rattle.scut_base.specs.Literal.{Literal}
use Rattle.instance.specs.Shape.{ClauseUpTo}
use Rattle.instance_normal.specs.NormalForm.{AreDistinct, positive}
use Rattle.instance_normal.proofs.Distinct.{rising_push, members_upto, put_both, is_positive, clause_says}
use Rattle.instance_normal.proofs.Relaxations.{variable_added}
use Rattle.instance_normal.proofs.soft.relaxed.Goals as goal

pub at_least_one-requires : goal.at_least_one-requires
at_least_one-requires c =
    let upto = members_upto (c.args.var - 1) c.args.soft.now.lits c.args.distinct c.requires.distinct c.requires.free in
    let at = c.new-lit.ensures.var in
    subst (AllPairs (λ (l m : Literal). l.var < m.var)) (sym c.in_ok-push.ensures.ok) (rising_push c.args.distinct c.new-lit.result c.requires.distinct.rising (All-weaker (λ (l : Literal). l.var ≤ c.args.var - 1) (λ (l : Literal). l.var < c.new-lit.result.var) (λ l le. omega arith) c.args.distinct upto))

pub returns : goal.returns
returns c =
    let upto = members_upto (c.args.var - 1) c.args.soft.now.lits c.args.distinct c.requires.distinct c.requires.free in
    let lit : c.new-lit.result ≡ positive c.args.var = is_positive c.new-lit.result c.args.var c.new-lit.ensures.var c.new-lit.ensures.neg in
    let more : c.push.new.self ≡ c.args.distinct ++ positive c.args.var ∷ [] = c.in_ok-push.ensures.ok ∙ ap (λ (l : Literal). c.args.distinct ++ l ∷ []) lit in
    let are : AreDistinct (c.args.soft.now.lits ++ positive c.args.var ∷ []) c.push.new.self = subst (AreDistinct (c.args.soft.now.lits ++ positive c.args.var ∷ [])) (sym more) (record {
      rising = rising_push c.args.distinct (positive c.args.var) c.requires.distinct.rising (All-weaker (λ (l : Literal). l.var ≤ c.args.var - 1) (λ (l : Literal). l.var < c.args.var) (λ l le. omega arith) c.args.distinct upto);
      same = put_both c.args.distinct c.args.soft.now.lits (positive c.args.var) c.requires.distinct.same;
    }) in
    let wide : ClauseUpTo c.args.var c.push.new.self = subst (ClauseUpTo c.args.var) (sym more) (All-push (λ (l : Literal). l.var ≤ c.args.var) c.args.distinct (positive c.args.var) (All-weaker (λ (l : Literal). l.var ≤ c.args.var - 1) (λ (l : Literal). l.var ≤ c.args.var) (λ l le. omega arith) c.args.distinct upto) (omega arith)) in
    let coefficient : to_z w64 c.args.soft.now.weight ≡ pos c.args.soft.now.weight = omega (arith, ints) in
    variable_added c.args.soft.now c.args.var _ c.new-lit.result c.at_least_one.result c.requires.payment coefficient lit (record { normal = c.at_least_one.ensures.normal; says = clause_says (c.args.soft.now.lits ++ positive c.args.var ∷ []) c.push.new.self c.at_least_one.result are c.at_least_one.ensures.value }) (c.at_least_one.ensures.fits c.args.var wide)
