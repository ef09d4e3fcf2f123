-- Room for more places first, and then the values.
use Rattle.std.proofs.Common.{◌≡◌, ◌-◌, ◌++◌, Bool, List, Option, None, replicate, ap, sym, subst, ◌∙◌, arith}
use Rattle.std.specs.Vec.{vec_len}
use Rattle.std.proofs.lemmas.List.{take_all}
use Rattle.scut_base.specs.Tracked.{IsTracked}
use Rattle.scut_base.proofs.Tracking.{tracked_longer, tracked_with_room}
use Rattle.scut_base.proofs.partial.Partial.grow.Goals as goal

pub invariant_of-self : goal.invariant_of-self
invariant_of-self c = tracked_with_room c.self.inside.values.items c.self.inside.places.items
    c.make_room.new.places.items c.self.inside.count c.self.invariant c.make_room.ensures.longer c.make_room.ensures.kept

pub invariant_of-self-in-Continue-branch-2 : goal.invariant_of-self-in-Continue-branch-2
invariant_of-self-in-Continue-branch-2 c =
    let values = c.self.inside.values.items in
    let places = c.make_room.new.places.items in
    let more = c.args.len - vec_len c.self.inside.values in
    let before = tracked_with_room values c.self.inside.places.items places c.self.inside.count
    c.self.invariant c.make_room.ensures.longer c.make_room.ensures.kept in
    let room = c.in_ok-make_room.ensures.room in
    let own = c.self.invariant.room in
    let longer = c.make_room.ensures.longer in
    let same : c.resize.new.self.items ≡ values ++ replicate more None = c.in_ok-resize.ensures.items
    ∙ ap (λ (vs : List (Option Bool)). vs ++ replicate more None) (take_all c.args.len values (omega (arith, c.self.inside.values.ok.0, c.if-len.true))) in
    subst (λ (vs : List (Option Bool)). IsTracked vs places c.self.inside.count) (sym same)
    (tracked_longer values places c.self.inside.count more before (omega (arith, room, own, longer, c.self.inside.values.ok.0, c.if-len.true)))

pub invariant_of-self-in_err-resize : goal.invariant_of-self-in_err-resize
invariant_of-self-in_err-resize c =
    let places = c.make_room.new.places.items in
    subst (λ (vs : List (Option Bool)). IsTracked vs places c.self.inside.count) (sym c.in_err-resize.ensures.items)
    (tracked_with_room c.self.inside.values.items c.self.inside.places.items places c.self.inside.count
    c.self.invariant c.make_room.ensures.longer c.make_room.ensures.kept)
