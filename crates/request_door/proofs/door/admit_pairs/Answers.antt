use Rattle.std.proofs.Common.{List, Ok, Err, subst}
use Rattle.sigv4.specs.Query.{Pair}
use Rattle.request_door.specs.DoorCarried.{ReadsCarried}
use Rattle.request_door.specs.Doors.{door_input}
use Rattle.request_door.proofs.DoorOrderLemmas.{refused_carried}
use Rattle.request_door.proofs.door.admit_pairs.Goals as goal

pub admit_texts-requires : goal.admit_texts-requires
admit_texts-requires g c = record {
  accepted = c.requires.accepted;
  reads = subst (λ (pairs : List Pair). ReadsCarried c.args.asked.now.request.now.headers pairs (Ok c.in-Ok.texts)) c.requires.pairs_are c.in-Ok.ensures;
}

pub returns-in-Err : goal.returns-in-Err
returns-in-Err g c =
    let asked = door_input (g.K.Keys.secrets c.args.keys.now) c.args.asked.now in
    let reads = subst (λ (pairs : List Pair). ReadsCarried c.args.asked.now.request.now.headers pairs (Err c.in-Err.fault)) c.requires.pairs_are c.in-Err.ensures in
    refused_carried asked c.args.asked.now.uri.now c.requires.accepted _ reads
