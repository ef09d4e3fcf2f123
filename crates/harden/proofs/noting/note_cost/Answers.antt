-- A table after one more term of an objective.
use Rattle.std.proofs.Common.{◌≡◌, ◌∙◌, ◌<◌, true, length, length-set, get_or, arith, ap, sym}
use Rattle.harden.specs.Noted.{occurrence_at}
use Rattle.harden.proofs.Places.{Terms, cost_place, cost_step}
use Rattle.harden.proofs.noting.note_cost.Goals as goal

pub loop-term-preserved : goal.loop-term-preserved
loop-term-preserved c =
    let terms = c.args.row.now.terms in
    let at = c.loop-term.term-index in
    let t = c.term-item.result in
    let code = c.literal_code.result in
    let table = c.loop-term.table.items in
    let place = c.index_mut.result.now in
    let same = c.terms-term-items.ensures.value in
    let inside : at < length terms = let test = c.loop-term-test.true in let long = ap length same in omega (arith, test, long) in
    let found : get_or terms at t ≡ t = ap (λ (us : Terms). get_or us at t) (sym same) ∙ sym c.term-item.is in
    let within = cost_place (length c.args.table.now.items) terms at t code c.requires inside found c.literal_code.ensures in
    let places = c.loop-term.invariant.places in
    record {
      places = length-set table code (record place { in_costs = true }) ∙ places;
      noted = cost_step terms at t table (λ m. occurrence_at c.args.table.now.items m) code place inside found c.literal_code.ensures (omega (arith, within, places)) c.index_mut.ensures.value c.loop-term.invariant.noted;
    }
