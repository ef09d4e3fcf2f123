use Rattle.std.proofs.Common.{◌≡◌, ◌+◌, ◌<◌, ◌≤◌, ◌++◌, ◌∷◌, [], suc, List, true, false, length, take, drop, get_or, sym, ap, ◌∙◌, arith, rules}
use Rattle.std.proofs.lemmas.List.{append_assoc, append-nil, get_or_read}
use Rattle.std.proofs.Math.Seq.{drop-cons}
use Rattle.proof_laws.specs.Steps.{made}
use Rattle.proof_laws.specs.declared.line.Line.{Line}
use Rattle.command_trim.specs.Marks.{made_by}
use Rattle.command_trim.specs.Renames.{RenamesValue, added, new_of, next_one, renaming}
use Rattle.command_trim.specs.Trimmed.{kept_lines, new_line, stays}
use Rattle.command_trim.proofs.OneLineMore.{kept_here, kept_next, left_here, left_next, no_lines_left}
use Rattle.command_trim.proofs.Marking.{drop_past, made_by_more, made_by_part, no_line}
use Rattle.command_trim.proofs.trimming.kept_lines.Goals as goal
use Rattle.command_trim.proofs.trimming.kept_lines.Goals.{then-stays+in_ok-new_line+in_ok-push+in_ok-keep, else-stays+in_ok-leave_out}

pub keep-requires : goal.keep-requires
keep-requires c =
    let inv = c.loop-at.invariant in
    let few = c.requires.few in
    let low = inv.low in
    let place = inv.place in
    let part = made_by_part c.args.lines.now c.loop-at.at in
    omega (arith, few, low, place, part)

pub overflow_add-next-then-stays : goal.overflow_add-next-then-stays
overflow_add-next-then-stays c =
    let inv = c.loop-at.invariant in
    let few = c.requires.few in
    let low = inv.low in
    let place = inv.place in
    let short = c.loop-at-test.true in
    let here : c.made.result ≡ made (get_or c.args.lines.now c.loop-at.at no_line) = c.made.ensures ∙ ap made (get_or_read c.args.lines.now _ _ short c.index-lines-at.is no_line) in
    let more = made_by_more c.args.lines.now c.loop-at.at short in
    let part = made_by_part c.args.lines.now (suc c.loop-at.at) in
    omega (arith, few, low, place, here, more, part)

pub loop-at-preserved : goal.loop-at-preserved
loop-at-preserved c =
    let lines = c.args.lines.now in
    let needs = c.args.needs.now in
    let i = c.loop-at.at in
    let v = c.loop-at.renames in
    let k = c.loop-at.next in
    let line = c.index-lines-at.result in
    let need = get_or needs i false in
    let inv = c.loop-at.invariant in
    let short : i < length lines = c.loop-at-test.true in
    let all = c.requires.all in
    let within : i < length needs = omega (arith, short, all) in
    let item : line ≡ get_or lines i no_line = get_or_read lines _ _ short c.index-lines-at.is no_line in
    let at : suc i ≡ i + 1 = omega arith in
    let more : made_by (take (i + 1) lines) ≡ made_by (take i lines) + made line =
    sym (ap (λ j. made_by (take j lines)) at) ∙ made_by_more lines i short ∙ ap (λ l. made_by (take i lines) + made l) (sym item) in
    let lines_split : drop i lines ≡ line ∷ drop (i + 1) lines = drop-cons lines i no_line short ∙ ap (λ l. l ∷ drop (suc i) lines) (sym item) ∙ ap (λ j. line ∷ drop j lines) at in
    let needs_split : drop i needs ≡ need ∷ drop (i + 1) needs = drop-cons needs i false within ∙ ap (λ j. need ∷ drop j needs) at in
    let both : kept_lines (renaming v) (next_one v) k (drop i needs) (drop i lines) ≡ kept_lines (renaming v) (next_one v) k (need ∷ drop (i + 1) needs) (line ∷ drop (i + 1) lines) =
    ap (λ bs. kept_lines (renaming v) (next_one v) k bs (drop i lines)) needs_split ∙ ap (λ ls. kept_lines (renaming v) (next_one v) k (need ∷ drop (i + 1) needs) ls) lines_split in
    let place = inv.place in
    let low = inv.low in
    let positive = inv.positive in
    elim c.if-stays.branch [
      | then-stays+in_ok-new_line+in_ok-push+in_ok-keep w ↦ rw w.renames-is (rw w.kept-is (rw w.next-is (
          let is : stays (renaming v) need line ≡ true = search rules in
          let step = kept_here v k need (drop (i + 1) needs) line (drop (i + 1) lines) positive is in
          let next = kept_next v line k in
          let makes : w.made.result ≡ made line = w.made.ensures in
          let renamed : w.keep.new.self ≡ added v (new_of line k) = search rules in
          let list : w.push.new.self ≡ c.loop-at.kept ++ new_line (renaming v) line ∷ [] = search rules in
          let left_lines = drop (i + 1) lines in
          let left_needs = drop (i + 1) needs in
          let rest = kept_lines (renaming (added v (new_of line k))) (next_one (added v (new_of line k))) (k + made line) left_needs left_lines in
          record {
            rows = search rules;
            place = search rules;
            positive = omega (arith, positive);
            low = search rules;
            whole =
                ap (λ (ls : List Line). ls ++ kept_lines (renaming w.keep.new.self) (next_one w.keep.new.self) (k + w.made.result) left_needs left_lines) list
                ∙ ap (λ (u : RenamesValue). (c.loop-at.kept ++ new_line (renaming v) line ∷ []) ++ kept_lines (renaming u) (next_one u) (k + w.made.result) left_needs left_lines) renamed
                ∙ ap (λ m. (c.loop-at.kept ++ new_line (renaming v) line ∷ []) ++ kept_lines (renaming (added v (new_of line k))) (next_one (added v (new_of line k))) (k + m) left_needs left_lines) makes
                ∙ append_assoc c.loop-at.kept (new_line (renaming v) line ∷ []) rest
                ∙ ap (λ (ls : List Line). c.loop-at.kept ++ ls) (sym (both ∙ step))
                ∙ inv.whole;
          })))
      | else-stays+in_ok-leave_out w ↦ rw w.renames-is (rw w.kept-is (rw w.next-is (
          let is : stays (renaming v) need line ≡ false = search rules in
          let step = left_here v k need (drop (i + 1) needs) line (drop (i + 1) lines) is in
          let next = left_next v line in
          record {
            rows = search rules;
            place = search rules;
            positive = positive;
            low = search rules;
            whole = search rules;
          })))
    ]

pub returns : goal.returns
returns c =
    let lines = c.args.lines.now in
    let needs = c.args.needs.now in
    let v = c.loop-at.renames in
    let inv = c.loop-at.invariant in
    let all = c.requires.all in
    let past : length lines ≤ c.loop-at.at = c.loop-at-test.false in
    let no_lines : drop c.loop-at.at lines ≡ [] = drop_past lines c.loop-at.at past in
    let no_needs : drop c.loop-at.at needs ≡ [] = drop_past needs c.loop-at.at (omega (arith, past, all)) in
    sym (append-nil c.loop-at.kept)
    ∙ sym (ap (λ ls. c.loop-at.kept ++ ls) (ap (λ bs. kept_lines (renaming v) (next_one v) c.loop-at.next bs (drop c.loop-at.at lines)) no_needs
    ∙ ap (λ ls. kept_lines (renaming v) (next_one v) c.loop-at.next [] ls) no_lines ∙ no_lines_left (renaming v) (next_one v) c.loop-at.next))
    ∙ inv.whole
