use Rattle.std.proofs.Common.{◌≡◌, true, false, map, option_copied}
use Rattle.env_config.specs.Source.{file_of}
use Rattle.awsign_run.proofs.PrintLemmas.{by_signer, long_refused, nobody_prints}
use Rattle.awsign_run.specs.Chosen.{signs_for_of}
use Rattle.awsign_run.specs.Signing.{is_long}
use Rattle.awsign_words.specs.Words.{sign_wanted}
use Rattle.awsign_run.proofs.signing.signed_anew.Goals as goal

pub returns-then-is_long : goal.returns-then-is_long
returns-then-is_long c =
    let long : is_long c.args.asked.now.options ≡ true = rw (← c.is_long.ensures) c.if-is_long.true in
    long_refused (sign_wanted c.args.asked.now) c.args.env.now (map file_of c.args.source.now.files.items) (option_copied c.args.digest) c.args.at long

pub returns-in-Ok : goal.returns-in-Ok
returns-in-Ok c =
    let short : is_long c.args.asked.now.options ≡ false = rw (← c.is_long.ensures) c.if-is_long.false in
    by_signer (sign_wanted c.args.asked.now) c.args.env.now (map file_of c.args.source.now.files.items) (option_copied c.args.digest) c.args.at short
    (signs_for_of c.in-Ok.signer) c.print_signed.result (rw (c.url_host.ensures, c.requires) at c.in-Ok.ensures) c.print_signed.ensures

pub returns-in-Err : goal.returns-in-Err
returns-in-Err c =
    let short : is_long c.args.asked.now.options ≡ false = rw (← c.is_long.ensures) c.if-is_long.false in
    nobody_prints (sign_wanted c.args.asked.now) c.args.env.now (map file_of c.args.source.now.files.items) (option_copied c.args.digest) c.args.at short
    c.in-Err.fault (rw (c.url_host.ensures, c.requires) at c.in-Err.ensures)
