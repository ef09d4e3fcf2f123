use Rattle.std.proofs.Common.{◌<◌, List, AllPairs, map, nat_lt, ap, ◌∙◌, subst, sym}
use Rattle.std.specs.List.{find}
use Rattle.scut_base.specs.Literal.{Literal}
use Rattle.pb_lin.proofs.Ones.{rising-literals}
use Rattle.proof_rules.proofs.Searches.{literal_variables, none_above}
use Rattle.proof_rules.proofs.ranges.terms_above.Goals as goal

pub are_within-requires : goal.are_within-requires
are_within-requires c = subst (AllPairs {X = Literal} (λ l m. l.var < m.var)) (sym c.literals-literals.ensures.value) (rising-literals c.args.c.now.terms c.literals-literals.ensures.normal.merged.rising)

pub returns-then-are_within : goal.returns-then-are_within
returns-then-are_within c =
    sym (none_above c.args.n c.literals-literals.result.now (c.are_within.ensures c.if-are_within.true))
    ∙ ap (λ (ls : List Literal). find (λ v. nat_lt c.args.n v) (map (λ (l : Literal). l.var) ls)) c.literals-literals.ensures.value
    ∙ ap (find (λ v. nat_lt c.args.n v)) (literal_variables c.args.c.now.terms)

pub returns : goal.returns
returns c =
    c.literals_above.ensures
    ∙ ap (λ (ls : List Literal). find (λ v. nat_lt c.args.n v) (map (λ (l : Literal). l.var) ls)) c.literals-literals.ensures.value
    ∙ ap (find (λ v. nat_lt c.args.n v)) (literal_variables c.args.c.now.terms)
