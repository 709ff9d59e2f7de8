-- A service to which signed requests come, and what it asks of its door.
use Rattle.std.specs.Prelude.{ℕ, List, [], ◌∷◌, Option}
use Rattle.smithy_core.specs.Moment.{Instant}
use Rattle.smithy_core.specs.declared.request.HttpRequest.{HttpRequest}
use Rattle.sigv4.specs.Settings.{Settings}
use Rattle.request_door.specs.Doors.{DoorInput}
use Rattle.request_door.specs.declared.limits.Limits.{Limits}
use Rattle.aws_signing.specs.KeyHolder.{HeldKey}

-- the region, the name, how its requests are signed, the keys and the limits
pub record ServiceState (K : Type 0) : Type 0 where
  pub region : List ℕ
  pub name : List ℕ
  pub settings : Settings
  pub keys : K
  pub limits : Limits

-- a service with the limits of AWS
abbrev pub service_of : {K : Type 0} → List ℕ → List ℕ → Settings → K → ServiceState K
service_of region name settings keys =
    record { region = region; name = name; settings = settings; keys = keys; limits = record { skew = 900; expiry = 604800; names = 100 } }

-- the service that knows the key of who signs alone, and takes requests which are signed by these settings
abbrev pub own_service : HeldKey → Settings → ServiceState (List (List ℕ × List ℕ))
own_service holder settings =
    service_of holder.kept.signer.region holder.kept.signer.name settings ((holder.key_id, holder.kept.signer.secret) ∷ [])

-- the service with other limits
abbrev pub with_limits : {K : Type 0} → ServiceState K → Limits → ServiceState K
with_limits service limits = record service { limits = limits }

-- what is asked of the door: the request with its own body, at a moment, by the secret of each key's id
abbrev pub asked_at : {K : Type 0} → (List ℕ → Option (List ℕ)) → ServiceState K → HttpRequest → Instant → DoorInput
asked_at secrets service request now = record {
  request = request;
  body = request.body;
  settings = service.settings;
  region = service.region;
  name = service.name;
  secrets = secrets;
  now = now;
  limits = service.limits;
}
