use Rattle.std.proofs.Common.{◌≡◌, ◌++◌, List, ℕ, Bool, true, false, length, drop, refl, sym}
use Rattle.std.specs.Prelude.{MatchBool}
use Rattle.std.proofs.lemmas.Bool.{false≢true}
use Rattle.std.proofs.lemmas.Bool.Decides.{Decides-eqb}
use Rattle.std.proofs.lemmas.Slice.Eq.{starts_is}
use Rattle.scut_base.specs.Files.{IsPrefixOf}
use Rattle.proof_text.proofs.opening.begins_with.Goals as goal

prefix_by : (s p : List ℕ) (r : Bool) → (r ≡ true → s ≡ p ++ drop (length p) s) × ((rest : List ℕ) → s ≡ p ++ rest → r ≡ true) → MatchBool r (IsPrefixOf p s) (IsPrefixOf p s → ⊥)
prefix_by s p true h = (drop (length p) s, sym (h.0 refl))
prefix_by s p false h = λ part. false≢true (h.1 part.0 (sym part.1))

pub returns : goal.returns
returns c = prefix_by c.args.bytes.now c.args.prefix.now c.starts_with.result (starts_is Decides-eqb c.args.bytes.now c.args.prefix.now c.starts_with.result c.starts_with.ensures.value)
