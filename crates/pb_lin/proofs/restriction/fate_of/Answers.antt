use Rattle.std.proofs.Common.{◌≢◌, ℕ, arith, ap, refl, subst}
use Rattle.std.specs.List.{All}
use Rattle.std.proofs.lemmas.List.{get_or_read}
use Rattle.scut_base.specs.Literal.{Literal}
use Rattle.pb_lin.specs.Place.{IsPlace}
use Rattle.pb_lin.proofs.Places.{none_at_place}
use Rattle.pb_lin.proofs.Truths.{not_set, not_among, other_sign, beq_same}
use Rattle.pb_lin.proofs.restriction.fate_of.Goals as goal
use Rattle.pb_lin.proofs.restriction.fate_of.Goals.{then-place-truths-via-then-place-truths, then-place-truths-via-else-place-truths+then-var}

pub returns-then-place-truths-clause-open : goal.returns-then-place-truths-clause-open
returns-then-place-truths-clause-open c =
    let place = subst (λ (v : ℕ). IsPlace {X = Literal} (λ l. l.var) c.args.truths.now v c.literal_place-place.result) c.var.ensures.value c.literal_place-place.ensures in
    let apart : All (λ (l : Literal). l.var ≢ c.args.literal.var) c.args.truths.now = none_at_place (λ l. l.var) c.args.truths.now c.args.literal.var c.literal_place-place.result c.requires place (elim c.then-place-truths.branch [
      | then-place-truths-via-then-place-truths w ↦ λ d short e. omega arith
      | then-place-truths-via-else-place-truths+then-var w ↦ λ d short e. let v = ap (λ (l : Literal). l.var) (get_or_read c.args.truths.now _ _ short w.index-truths-place.is d) in omega arith
    ]) in ((λ _. not_set _ _ apart), (λ _. refl))

pub returns-then-place-truths-clause-met : goal.returns-then-place-truths-clause-met
returns-then-place-truths-clause-met c =
    let place = subst (λ (v : ℕ). IsPlace {X = Literal} (λ l. l.var) c.args.truths.now v c.literal_place-place.result) c.var.ensures.value c.literal_place-place.ensures in
    let apart : All (λ (l : Literal). l.var ≢ c.args.literal.var) c.args.truths.now = none_at_place (λ l. l.var) c.args.truths.now c.args.literal.var c.literal_place-place.result c.requires place (elim c.then-place-truths.branch [
      | then-place-truths-via-then-place-truths w ↦ λ d short e. omega arith
      | then-place-truths-via-else-place-truths+then-var w ↦ λ d short e. let v = ap (λ (l : Literal). l.var) (get_or_read c.args.truths.now _ _ short w.index-truths-place.is d) in omega arith
    ]) in
    let none = not_among c.args.truths.now c.args.literal apart in
    ((λ e. cc), (λ e. cc))

pub returns-else-is_neg-clause-met : goal.returns-else-is_neg-clause-met
returns-else-is_neg-clause-met c =
    let place = subst (λ (v : ℕ). IsPlace {X = Literal} (λ l. l.var) c.args.truths.now v c.literal_place-place.result) c.var.ensures.value c.literal_place-place.ensures in
    let none = other_sign c.args.truths.now c.args.literal c.literal_place-place.result c.requires place (λ d short e.
    let v = ap (λ (l : Literal). l.neg) (get_or_read c.args.truths.now _ _ short c.index-truths-place-2.is d) in
    let same = beq_same c.is_neg.result c.is_neg-2.result (cc) in cc) in
    ((λ e. cc), (λ e. cc))
