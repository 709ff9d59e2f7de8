use Rattle.request_door.specs.Doors.{door_input}
use Rattle.request_door.proofs.DoorOrderLemmas.{refused_terms}
use Rattle.request_door.proofs.door.admit_texts.Goals as goal

pub admit_terms-requires : goal.admit_terms-requires
admit_terms-requires g c = record { texts = c.requires; states = c.in-Ok.ensures }

pub returns-in-Err : goal.returns-in-Err
returns-in-Err g c =
    let asked = door_input (g.K.Keys.secrets c.args.keys.now) c.args.asked.now in
    refused_terms asked c.args.asked.now.uri.now c.requires.accepted c.args.texts.now c.requires.reads _ c.in-Err.ensures
