use Rattle.std.proofs.Common.{refl, sym, ◌∙◌, Some, None}
use Rattle.std.proofs.lemmas.Bool.Decides.{Decides-eqb}
use Rattle.std.proofs.lemmas.Slice.Eq.{strip_prefix_is}
use Rattle.front_text.proofs.cursor.Cursor.skip.Goals as goal

pub returns-in-Some : goal.returns-in-Some
returns-in-Some c = sym c.self.view_is ∙ strip_prefix_is Decides-eqb c.self.inside.rest.now c.args.text.now (Some c.in-Some.rest) c.in-Some.ensures.cases

pub returns-in-None : goal.returns-in-None
returns-in-None c = (refl, λ rest is. strip_prefix_is Decides-eqb c.self.inside.rest.now c.args.text.now None c.in-None.ensures.cases rest (c.self.view_is ∙ is))
