use Rattle.std.proofs.Common.{◌≡◌, ◌<◌, ◌^◌, [], length, refl, rules}
use Rattle.std.proofs.lemmas.Bool.{false≢true}
use Rattle.std.proofs.lemmas.Result.{err_from_is_err_and}
use Rattle.front_text.proofs.ModelsTexts.{entry_fault, spelled_whole, more_text, rest_short}
use Rattle.front_text.proofs.models_reader.read_models.Goals as goal

pub read_entries-requires : goal.read_entries-requires
read_entries-requires c =
    let short : length c.args.bytes.now < 2 ^ 64 = search rules in
    rest_short c.args.bytes.now c.take_head.new.cursor c.in-Some.count short (rw c.new-cursor.ensures at c.in-Some.ensures)

pub returns-in_err-entries-clause-fault : goal.returns-in_err-entries-clause-fault
returns-in_err-entries-clause-fault c =
    let p = err_from_is_err_and c.from_residual.result c.from_residual.ensures.1 in
    rw (p.1, p.2) (entry_fault c.args.bytes.now c.take_head.new.cursor c.in-Some.count _ (rw c.new-cursor.ensures at c.in-Some.ensures) c.in_err-entries.ensures.fault)

pub returns-clause-spelled : goal.returns-clause-spelled
returns-clause-spelled c =
    let short : length c.args.bytes.now < 2 ^ 64 = search rules in
    let ended : c.read_entries.new.cursor ≡ [] = c.if-not-is_at_end.ensures.0 refl in
    spelled_whole c.args.bytes.now c.take_head.new.cursor c.read_entries.new.cursor c.in-Some.count c.in_ok-entries.entries short (rw c.new-cursor.ensures at c.in-Some.ensures) c.in_ok-entries.ensures.taken c.in_ok-entries.ensures.count ended

pub returns-then-not-is_at_end-clause-fault : goal.returns-then-not-is_at_end-clause-fault
returns-then-not-is_at_end-clause-fault c =
    let short : length c.args.bytes.now < 2 ^ 64 = search rules in
    more_text c.args.bytes.now c.take_head.new.cursor c.read_entries.new.cursor c.in-Some.count c.in_ok-entries.entries short (rw c.new-cursor.ensures at c.in-Some.ensures) c.in_ok-entries.ensures.taken c.in_ok-entries.ensures.count (λ none. absurd (false≢true (c.if-not-is_at_end.ensures.1 none)))
