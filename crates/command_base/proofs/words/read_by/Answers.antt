use Rattle.std.proofs.Common.{rules, ◌≡◌, map, string_bytes}
use Rattle.clap.specs.Words.{app_of, found_of, kind_of, rows_of}
use Rattle.clap.specs.declared.error.kind.ErrorKind.TheVariants.{OutOfMemory}
use Rattle.command_base.proofs.ClapWords.{first_true, words_taken, words_refused}
use Rattle.command_base.proofs.words.read_by.Goals as goal

pub returns-in-Ok : goal.returns-in-Ok
returns-in-Ok c = words_taken (app_of c.args.command) (map string_bytes c.args.words.now) (rows_of (found_of c.in-Ok.matches)) (c.in-Ok.ensures.kinds c.requires) (c.in-Ok.ensures.matches (first_true _ _ c.requires)).0

pub returns-else-eq : goal.returns-else-eq
returns-else-eq c =
    let other : kind_of c.in-Err.error ≡ OutOfMemory → ⊥ = search rules in
    words_refused (app_of c.args.command) (map string_bytes c.args.words.now) c.in-Err.error (c.in-Err.ensures.kinds c.requires) other
