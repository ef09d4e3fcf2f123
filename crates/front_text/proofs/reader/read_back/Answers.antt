use Rattle.std.proofs.Common.{◌≡◌, ◌<◌, ◌^◌, length, rules}
use Rattle.std.proofs.lemmas.Result.{IfOk-weaker, IfErr-weaker}
use Rattle.front_text.specs.declared.list.FrontList.{FrontList}
use Rattle.front_text.specs.declared.list.ListFault.{ListFault}
use Rattle.front_text.specs.declared.list.ListFault.TheVariants.{NoMemory}
use Rattle.front_text.specs.Spelling.{Spells, IsFaultOf}
use Rattle.front_text.proofs.Texts.{one_list_of, read_as_printed}
use Rattle.front_text.proofs.reader.read_back.Goals as goal

pub returns-clause-entries : goal.returns-clause-entries
returns-clause-entries c =
    let text = c.deref.result.now in
    let short : length text < 2 ^ 64 = search rules in
    let printed : Spells text c.args.complete c.args.entries.now = rw c.deref.ensures.value c.in_ok-text.ensures in
    IfOk-weaker c.read_list.result (λ (list : FrontList). Spells text list.complete list.entries) (λ (list : FrontList). list.entries ≡ c.args.entries.now)
    (λ list spelled. (one_list_of text list.complete c.args.complete list.entries c.args.entries.now short spelled printed).1)
    c.read_list.ensures.spelled

pub returns-clause-refused : goal.returns-clause-refused
returns-clause-refused c =
    let text = c.deref.result.now in
    let short : length text < 2 ^ 64 = search rules in
    let printed : Spells text c.args.complete c.args.entries.now = rw c.deref.ensures.value c.in_ok-text.ensures in
    IfErr-weaker c.read_list.result (λ (f : ListFault). IsFaultOf text f) (λ (f : ListFault). f ≡ NoMemory)
    (λ f wrong. read_as_printed text c.args.complete c.args.entries.now f short printed wrong)
    c.read_list.ensures.fault
