use Rattle.std.proofs.Common.{sym}
use Rattle.std.proofs.lemmas.List.Elements.{All-same}
use Rattle.eventstream.specs.Laws.{IsProperHeader}
use Rattle.eventstream.proofs.laws.know_message.Goals as goal

pub returns : goal.returns
returns c =
    record { headers = All-same IsProperHeader c.args.message.now.headers c.headers.result.now (sym c.headers.ensures) c.know_headers.ensures }
