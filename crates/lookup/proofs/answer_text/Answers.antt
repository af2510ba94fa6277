-- `answer_text` lays what the program prints, by its three cases.
use mathlib.Core.Path.{sym, ap, ◌∙◌}
use native.Mathlib.Omega.{arith}
use Rattle.rules.specs.Verdict.{Room}
use Rattle.rules.specs.Ask.{reply}
use Rattle.rules.specs.Program.{answer_room, refused_line}
use Rattle.files.specs.Laid.{words_of}
use Rattle.text.proofs.RefusedLaws.{refused_most}
use Rattle.lookup.proofs.ReplyLaws.{reply_fits}
use Rattle.lookup.proofs.PrintLaws.{printed_large, questions_within, printed_rest, printed_whole, printed_laid}
use Rattle.lookup.proofs.ToldLaws.{reply_most}
use Rattle.lookup.proofs.answer_text.Goals as goal

pub put_refused-requires : goal.put_refused-requires
put_refused-requires c = omega (arith, refused_most Room)

pub returns-then-over_limit : goal.returns-then-over_limit
returns-then-over_limit c =
    let a = c.args in
    let s = a.card.now in
    let qs = a.questions.now in
    let e = printed_large s qs (sym c.over_limit.ensures ∙ c.if-over_limit.true) in
    printed_laid s qs a.text.now e (omega (arith, refused_most Room)) c.put_refused.ensures

pub put_refused-requires-then-bytes_left : goal.put_refused-requires-then-bytes_left
put_refused-requires-then-bytes_left c = omega (arith, refused_most c.refuse_rest.result)

pub returns-then-bytes_left : goal.returns-then-bytes_left
returns-then-bytes_left c =
    let r = c.refuse_rest in
    let a = c.args in
    let s = a.card.now in
    let qs = a.questions.now in
    let e =
    printed_rest s qs (sym c.over_limit.ensures ∙ c.if-over_limit.false)
    (sym c.bytes_left.ensures ∙ c.if-bytes_left.true) in
    printed_laid s qs a.text.now (e ∙ ap refused_line (sym r.ensures)) (omega (arith, refused_most r.result))
    c.put_refused-then-bytes_left.ensures

pub put_reply-requires : goal.put_reply-requires
put_reply-requires c =
    let a = c.args in
    (questions_within a.card.now a.questions.now (sym c.over_limit.ensures ∙ c.if-over_limit.false), omega arith)

pub returns : goal.returns
returns c =
    let a = c.args in
    let s = a.card.now in
    let qs = a.questions.now in
    let e =
    printed_whole s qs (sym c.over_limit.ensures ∙ c.if-over_limit.false)
    (sym c.bytes_left.ensures ∙ c.if-bytes_left.false) in
    let p = reply s (words_of qs) answer_room in
    printed_laid s qs a.text.now e (omega (arith, reply_most p (reply_fits s (words_of qs) answer_room)))
    c.put_reply.ensures
