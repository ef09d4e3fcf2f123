use Rattle.std.proofs.Common.{sym, subst}
use Rattle.proof_lines.specs.Kinds.{ReadsBody}
use Rattle.proof_lines.specs.declared.kind.Kind.{Kind}
use Rattle.proof_lines.proofs.body.read_body.Goals as goal

pub returns-in-Def : goal.returns-in-Def
returns-in-Def c = subst (λ (k : Kind). ReadsBody c.args.spelling k c.args.words.now c.read_def.result) (sym c.in-Def.is) (c.read_def.ensures c.args.spelling)
