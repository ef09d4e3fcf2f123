use Rattle.std.proofs.Common.{◌≡◌, ℕ, ◌-◌, not, if◌then◌else◌, Bool, Option, None, List, length, get_or, arith, ap, ◌∙◌}
use Rattle.scut_base.proofs.Tracking.{count_below, tracked_set, none_under}
use Rattle.scut_base.proofs.partial.Partial.set.Goals as goal

pub index_mut-requires-2 : goal.index_mut-requires-2
index_mut-requires-2 c =
    let values = c.self.inside.values.items in
    let var = c.var-place.ensures.value in
    let place = c.var-place.result - 1 in
    let open' : get_or values (c.var-place.result - 1) None ≡ None = ap (λ (vs : List (Option Bool)). get_or vs (c.var-place.result - 1) None) c.self.view_is ∙ ap (λ (n : ℕ). get_or c.args.self.now (n - 1) None) var ∙ none_under (λ b. if c.args.lit.neg then not b else b) _ c.requires.open in
    let long = ap length c.self.view_is in
    let low = c.var-place.ensures.from_one in
    let most = count_below values (c.var-place.result - 1) (omega arith) open' in
    let count = c.self.invariant.count in
    let room = c.self.invariant.room in
    omega arith

pub invariant_of-self : goal.invariant_of-self
invariant_of-self c =
    let values = c.self.inside.values.items in
    let var = c.var-place.ensures.value in
    let open' : get_or values (c.var-place.result - 1) None ≡ None = ap (λ (vs : List (Option Bool)). get_or vs (c.var-place.result - 1) None) c.self.view_is ∙ ap (λ (n : ℕ). get_or c.args.self.now (n - 1) None) var ∙ none_under (λ b. if c.args.lit.neg then not b else b) _ c.requires.open in
    let long = ap length c.self.view_is in
    let low = c.var-place.ensures.from_one in
    tracked_set values c.self.inside.places.items c.self.inside.count (c.var-place.result - 1) (not c.is_neg.result) c.self.invariant (omega arith) open'
