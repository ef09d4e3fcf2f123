-- The literal at the place of its variable is the only one that it can be.
use Rattle.std.proofs.Common.{◌≢◌, ◌<◌, ℕ, length, Bool, sym, arith, ap, subst, ◌∙◌}
use Rattle.std.proofs.Math.Bool.{beq}
use Rattle.std.specs.List.{All}
use Rattle.std.proofs.lemmas.List.{get_or_read}
use Rattle.scut_base.specs.Literal.{Literal}
use Rattle.pb_lin.specs.Place.{IsPlace}
use Rattle.pb_lin.proofs.Places.{none_at_place}
use Rattle.pb_lin.proofs.Truths.{not_among}
use Rattle.core_boosting.proofs.Literals.{among_at}
use Rattle.core_boosting.proofs.terms.is_among.Goals as goal
use Rattle.core_boosting.proofs.terms.is_among.Goals.{then-place-lits-via-then-place-lits, then-place-lits-via-else-place-lits+then-var}

pub returns-then-place-lits : goal.returns-then-place-lits
returns-then-place-lits c =
    let lits = c.args.lits.now in
    let l = c.args.lit in
    let place = subst (λ (v : ℕ). IsPlace {X = Literal} (λ m. m.var) lits v c.literal_place-place.result) c.var.ensures.value c.literal_place-place.ensures in
    let apart : All (λ (m : Literal). m.var ≢ l.var) lits = none_at_place (λ m. m.var) lits l.var c.literal_place-place.result c.requires place (elim c.then-place-lits.branch [
      | then-place-lits-via-then-place-lits w ↦ λ d short e. omega arith
      | then-place-lits-via-else-place-lits+then-var w ↦ λ d short e. let v = ap (λ (m : Literal). m.var) (get_or_read lits _ _ short w.index-lits-place.is d) in omega arith
    ]) in
    sym (not_among lits l apart)

pub returns : goal.returns
returns c =
    let lits = c.args.lits.now in
    let l = c.args.lit in
    let place = subst (λ (v : ℕ). IsPlace {X = Literal} (λ m. m.var) lits v c.literal_place-place.result) c.var.ensures.value c.literal_place-place.ensures in
    let bound = c.literal_place-place.ensures.bound in
    let short : c.literal_place-place.result < length lits = omega arith in
    let at = λ (d : Literal). sym (get_or_read lits _ _ short c.index-lits-place-2.is d) in
    let first = ap (λ (m : Literal). m.var) (get_or_read lits _ _ short c.index-lits-place.is l) in
    let second = ap (λ (m : Literal). m.var) (at l) in
    let is = among_at lits l c.index-lits-place-2.result c.literal_place-place.result c.requires place short at (omega arith) in
    ap (λ (n : Bool). beq n c.is_neg-2.result) c.is_neg.ensures ∙ ap (λ (n : Bool). beq c.index-lits-place-2.result.neg n) c.is_neg-2.ensures ∙ is
