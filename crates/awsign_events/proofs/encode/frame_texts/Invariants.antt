use Rattle.std.proofs.Common.{◌≡◌, ◌+◌, true, take}
use Rattle.std.specs.List.{flat_map, list_all}
use Rattle.awsign_events.specs.Encode.{is_framed, written_frame}
use Rattle.awsign_events.proofs.encode.frame_texts.Given as goal

-- the frames of the messages so far are written
abbrev pub invariant-messages : goal.invariant-messages
invariant-messages l = record {
  written : l.text.items ≡ flat_map (written_frame l.is_hex) (take l.message-index l.messages);
  framed : list_all is_framed (take l.message-index l.messages) ≡ true;
  placed : l.place ≡ l.message-index + 1;
}
