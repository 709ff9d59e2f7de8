-- The signed request of words, as it is printed.
use Rattle.std.proofs.Common.{◌≡◌, ℕ, true, false, inl, inr, List, Option, codes, refl}
use Rattle.std.specs.Prelude.{Result, Ok, Err}
use Rattle.std.specs.Global.{Vec}
use Rattle.smithy_core.specs.Moment.{Instant}
use Rattle.smithy_core.specs.TextPairs.{last_value}
use Rattle.smithy_http.specs.Target.{Target}
use Rattle.sigv4.specs.Request.{Case}
use Rattle.env_config.specs.Sections.{FileText}
use Rattle.awsign_run.specs.Chosen.{IsFaultOf, SignRefusal, SignsFor, asked_profile, signer_by}
use Rattle.awsign_run.specs.Signing.{IsPrinted, PrintsFor, PrintsAnew, SignsAsked, SignsPrinted, is_long}
use Rattle.awsign_words.specs.Words.{SignWanted}
use Rattle.awsign_run.specs.Guess.{url_host}
use Rattle.awsign_run.specs.declared.signing.SignedRequest.{SignedRequest}
use Rattle.awsign_run.specs.declared.fault.Fault.{Fault}
use Rattle.awsign_run.specs.declared.fault.Fault.TheVariants.{LongExpiry, NoMemory}

-- memory may always run out
out_of_memory : (sign_wanted : SignWanted) (planned : Result SignsFor SignRefusal) (digest : Option (List ℕ)) (at : Instant) (fault : Fault) → fault ≡ NoMemory → PrintsFor sign_wanted planned digest at (Err fault)
out_of_memory sign_wanted (Ok signer) digest at fault is = inr is
out_of_memory sign_wanted (Err refusal) digest at fault is = inr is

-- where nobody signs nothing is printed
signer_lacks : (sign_wanted : SignWanted) (planned : Result SignsFor SignRefusal) (digest : Option (List ℕ)) (at : Instant) (fault : Fault) → IsFaultOf planned fault → PrintsFor sign_wanted planned digest at (Err fault)
signer_lacks sign_wanted planned digest at fault (inl is) = rw is (inl refl)
signer_lacks sign_wanted planned digest at fault (inr is) = out_of_memory sign_wanted planned digest at fault is

-- a URL that would be good for too long isn't made
pub long_refused : (sign_wanted : SignWanted) (env : List (List ℕ × List ℕ)) (files : List FileText) (digest : Option (List ℕ)) (at : Instant) → is_long sign_wanted.options ≡ true
    → PrintsAnew sign_wanted env files digest at (Err LongExpiry)
long_refused sign_wanted env files digest at long = rw long (inl refl)

module _ (sign_wanted : SignWanted) (env : List (List ℕ × List ℕ)) (files : List FileText) (digest : Option (List ℕ)) (at : Instant) (short : is_long sign_wanted.options ≡ false) where
  abbrev signs_by : Result SignsFor SignRefusal
  signs_by = signer_by sign_wanted.options (url_host sign_wanted.url) env (asked_profile sign_wanted.options env) files

  -- what somebody signs is printed
  pub by_signer : (signer : SignsFor) (result : Result (Vec ℕ) Fault) → signs_by ≡ Ok signer → PrintsFor sign_wanted (Ok signer) digest at result → PrintsAnew sign_wanted env files digest at result
  by_signer signer result is prints = rw (short, is) prints

  -- nothing is printed where nobody signs
  pub nobody_prints : (fault : Fault) → IsFaultOf signs_by fault → PrintsAnew sign_wanted env files digest at (Err fault)
  nobody_prints fault is = rw short (signer_lacks sign_wanted signs_by digest at fault is)

-- a signed request is printed
pub request_printed : (sign_wanted : SignWanted) (case : Target → Case) (signed : SignedRequest) (text : Vec ℕ) → SignsAsked sign_wanted case (Ok signed)
    → IsPrinted sign_wanted signed (last_value sign_wanted.options (codes "--data")) text.items → SignsPrinted sign_wanted case (Ok text)
request_printed sign_wanted case signed text signs printed =
    (signed.uri, signs.0, signs.1, rw (← signs.2, ← signs.3, ← signs.4) printed)
