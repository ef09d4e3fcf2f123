use Rattle.std.proofs.Common.{◌≡◌, ◌↔◌, ◌⊎◌, Bool, not, List, sym, ap, ◌∙◌, subst}
use Rattle.std.specs.Prelude.{Contains}
use Rattle.std.specs.BTreeSet.{contains, insert_key}
use Rattle.representatives.proofs.Seen.{inserted, model_cmp, new_or_seen}
use Rattle.representatives.proofs.checking.is_new.Goals as goal

pub returns-clause-found : goal.returns-clause-found
returns-clause-found c = new_or_seen c.args.seen.now c.args.model.now c.in_ok-insert.field-0 (c.in_ok-insert.ensures.added ∙ ap (λ (a : List Bool). not (contains model_cmp c.args.seen.now a)) (c.from_vec-values.ensures ∙ c.in_ok-from_slice.ensures.items ∙ c.as_slice.ensures))

pub returns-clause-kept : goal.returns-clause-kept
returns-clause-kept c = λ q.
    let keys : c.insert.new.self.keys ≡ insert_key model_cmp c.args.seen.now.keys c.args.model.now = c.in_ok-insert.ensures.keys ∙ ap (insert_key model_cmp c.args.seen.now.keys) (c.from_vec-values.ensures ∙ c.in_ok-from_slice.ensures.items ∙ c.as_slice.ensures) in
    subst (λ (ks : List (List Bool)). Contains ks q ↔ (Contains c.args.seen.now.keys q ⊎ (c.args.model.now ≡ q))) (sym keys) (inserted c.args.seen.now.keys c.args.model.now q)
