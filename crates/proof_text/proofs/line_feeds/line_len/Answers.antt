use Rattle.proof_text.proofs.OneLines.{first_feed}
use Rattle.proof_text.proofs.line_feeds.line_len.Goals as goal

pub returns : goal.returns
returns c = first_feed c.args.bytes.now c.memchr.result c.memchr.ensures
