use Rattle.std.proofs.Common.{ap, sym, ◌∙◌, ◌≡◌, length, subst, ℕ, List, arith}
use Rattle.std.specs.Prelude.{nat_eq}
use Rattle.std.specs.FinMap.{len}
use Rattle.std.specs.List.{zip, IsDistinct}
use Rattle.std.proofs.lemmas.Map.Made.{keys_of-zip}
use Rattle.std.proofs.lemmas.Map.Entries.{length-keys_of}
use Rattle.pb_lin.specs.LineMap.{LineMap}
use Rattle.pb_lin.proofs.LineEntries.{len_lines}
use Rattle.pb_lin.proofs.LineTable.{ids_distinct}
use Rattle.pb_lin.proofs.lines.Lines.len.Goals as goal

pub returns : goal.returns
returns c =
    let ids = c.self.inside.ids.items in
    let entries = zip ids c.self.inside.lines.items in
    let counted = c.self.invariant.counted in
    let same : c.len.result ≡ length c.self.inside.lines.items = omega (arith, c.len.ensures) in
    let keys = keys_of-zip ids c.self.inside.lines.items (sym counted) in
    let distinct = subst (IsDistinct nat_eq) (sym keys) (ids_distinct c.self.inside.table ids _ c.self.invariant) in
    same ∙ sym counted ∙ sym (ap (λ (ks : List ℕ). length ks) keys) ∙ length-keys_of entries
    ∙ sym (len_lines entries distinct) ∙ ap (λ (m : LineMap). len m) c.self.view_is
