use Rattle.event_io.proofs.ChainLemmas.{chain_polled, chain_stays, frame_sent}
use Rattle.event_io.proofs.laws.chain_polled.Goals as goal

pub returns-clause-polled : goal.returns-clause-polled
returns-clause-polled g c identity who before now old_moments moments =
    chain_polled g.S.EventSource g.M.MarshallMessage g.EM.MarshallMessage g.G.SignMessage identity who g.C.Clock before now old_moments moments

pub returns-clause-sent : goal.returns-clause-sent
returns-clause-sent g c identity who before now old_moments moments events signature frames sent old new bytes polls begun =
    frame_sent g.S.EventSource g.M.MarshallMessage g.EM.MarshallMessage g.G.SignMessage identity who g.C.Clock before now old_moments moments events signature frames sent old new bytes
    tt polls begun

pub returns-clause-stays : goal.returns-clause-stays
returns-clause-stays g c identity who before now old_moments moments =
    chain_stays g.S.EventSource g.M.MarshallMessage g.EM.MarshallMessage g.G.SignMessage identity who g.C.Clock before now old_moments moments
