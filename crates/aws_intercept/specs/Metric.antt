-- The metrics of the user agent in their order, and the ids of their places.
use Rattle.std.specs.Prelude.{ℕ, ◌-◌, ◌/◌, ◌%◌, ◌==◌, Bool, nat_lt, List, [], ◌∷◌, if◌then◌else◌, codes, slice_index}
use Rattle.std.specs.List.{position_or_len}
use denote.Enum.Declared.{tag_of}
use Rattle.aws_intercept.specs.contracts.user_agent.metric.BusinessMetric.{the_type}
use Rattle.aws_intercept.specs.declared.user_agent.metric.BusinessMetric.{BusinessMetric}
use Rattle.aws_intercept.specs.declared.user_agent.metric.BusinessMetric.TheVariants.{
  ResourceModel,
  Waiter,
  Paginator,
  RetryModeLegacy,
  RetryModeStandard,
  RetryModeAdaptive,
  S3Transfer,
  S3CryptoV1n,
  S3CryptoV2,
  S3ExpressBucket,
  S3AccessGrants,
  GzipRequestCompression,
  ProtocolRpcV2Cbor,
  EndpointOverride,
  AccountIdEndpoint,
  AccountIdModePreferred,
  AccountIdModeDisabled,
  AccountIdModeRequired,
  Sigv4aSigning,
  ResolvedAccountId,
  FlexibleChecksumsReqCrc32,
  FlexibleChecksumsReqCrc32c,
  FlexibleChecksumsReqCrc64,
  FlexibleChecksumsReqSha1,
  FlexibleChecksumsReqSha256,
  FlexibleChecksumsReqWhenSupported,
  FlexibleChecksumsReqWhenRequired,
  FlexibleChecksumsResWhenSupported,
  FlexibleChecksumsResWhenRequired,
  DdbMapper,
  CredentialsCode,
  CredentialsJvmSystemProperties,
  CredentialsEnvVars,
  CredentialsEnvVarsStsWebIdToken,
  CredentialsStsAssumeRole,
  CredentialsStsAssumeRoleSaml,
  CredentialsStsAssumeRoleWebId,
  CredentialsStsFederationToken,
  CredentialsStsSessionToken,
  CredentialsProfile,
  CredentialsProfileSourceProfile,
  CredentialsProfileNamedProvider,
  CredentialsProfileStsWebIdToken,
  CredentialsProfileSso,
  CredentialsSso,
  CredentialsProfileSsoLegacy,
  CredentialsSsoLegacy,
  CredentialsProfileProcess,
  CredentialsProcess,
  CredentialsBoto2ConfigFile,
  CredentialsAwsSdkStore,
  CredentialsHttp,
  CredentialsImds,
  SsoLoginDevice,
  SsoLoginAuth,
  BearerServiceEnvVars,
  ObservabilityTracing,
  ObservabilityMetrics,
  ObservabilityOtelTracing,
  ObservabilityOtelMetrics,
  CredentialsCognito,
  S3TransferUploadDirectory,
  S3TransferDownloadDirectory,
  CliV1ToV2MigrationDebugMode,
  LoginSameDevice,
  LoginCrossDevice,
  CredentialsProfileLogin,
  CredentialsLogin,
  FlexibleChecksumsReqMd5,
  FlexibleChecksumsReqSha512,
  FlexibleChecksumsReqXxhash3,
  FlexibleChecksumsReqXxhash64,
  FlexibleChecksumsReqXxhash128,
  HttpClientAuto,
  HttpClientExplicitInstance,
  HttpClientExplicitFactory,
  SsoLoginVanityUrl,
  AgenticCallerClaudeCode,
  AgenticCallerGeminiCli,
  AgenticCallerCodex,
  AgenticCallerKiro,
  AgenticCallerOpenCode,
  AgenticCallerAntigravity,
  AgenticCallerAmp,
  AgenticCallerPi,
  AgenticCallerCopilotCli,
  AgenticCallerCursor,
  S3CustomPartSize,
  S3CustomThroughput,
  S3CustomMemoryLimit,
  S3OnEc2,
  S3FilePath,
  DynamodbMapperV2,
  S3TransferClassicExplicit,
  S3TransferCrtExplicit,
  S3TransferClassicAuto,
  S3TransferCrtAuto,
  S3RegionRedirect,
}

-- the metrics in order
unfoldable pub metric_order : List BusinessMetric
metric_order =
    ResourceModel ∷ Waiter ∷ Paginator ∷ RetryModeLegacy ∷ RetryModeStandard ∷ RetryModeAdaptive ∷ S3Transfer ∷
    S3CryptoV1n ∷ S3CryptoV2 ∷ S3ExpressBucket ∷ S3AccessGrants ∷ GzipRequestCompression ∷ ProtocolRpcV2Cbor ∷
    EndpointOverride ∷ AccountIdEndpoint ∷ AccountIdModePreferred ∷ AccountIdModeDisabled ∷
    AccountIdModeRequired ∷ Sigv4aSigning ∷ ResolvedAccountId ∷ FlexibleChecksumsReqCrc32 ∷
    FlexibleChecksumsReqCrc32c ∷ FlexibleChecksumsReqCrc64 ∷ FlexibleChecksumsReqSha1 ∷
    FlexibleChecksumsReqSha256 ∷ FlexibleChecksumsReqWhenSupported ∷ FlexibleChecksumsReqWhenRequired ∷
    FlexibleChecksumsResWhenSupported ∷ FlexibleChecksumsResWhenRequired ∷ DdbMapper ∷ CredentialsCode ∷
    CredentialsJvmSystemProperties ∷ CredentialsEnvVars ∷ CredentialsEnvVarsStsWebIdToken ∷
    CredentialsStsAssumeRole ∷ CredentialsStsAssumeRoleSaml ∷ CredentialsStsAssumeRoleWebId ∷
    CredentialsStsFederationToken ∷ CredentialsStsSessionToken ∷ CredentialsProfile ∷
    CredentialsProfileSourceProfile ∷ CredentialsProfileNamedProvider ∷ CredentialsProfileStsWebIdToken ∷
    CredentialsProfileSso ∷ CredentialsSso ∷ CredentialsProfileSsoLegacy ∷ CredentialsSsoLegacy ∷
    CredentialsProfileProcess ∷ CredentialsProcess ∷ CredentialsBoto2ConfigFile ∷ CredentialsAwsSdkStore ∷
    CredentialsHttp ∷ CredentialsImds ∷ SsoLoginDevice ∷ SsoLoginAuth ∷ BearerServiceEnvVars ∷
    ObservabilityTracing ∷ ObservabilityMetrics ∷ ObservabilityOtelTracing ∷ ObservabilityOtelMetrics ∷
    CredentialsCognito ∷ S3TransferUploadDirectory ∷ S3TransferDownloadDirectory ∷
    CliV1ToV2MigrationDebugMode ∷ LoginSameDevice ∷ LoginCrossDevice ∷ CredentialsProfileLogin ∷
    CredentialsLogin ∷ FlexibleChecksumsReqMd5 ∷ FlexibleChecksumsReqSha512 ∷ FlexibleChecksumsReqXxhash3 ∷
    FlexibleChecksumsReqXxhash64 ∷ FlexibleChecksumsReqXxhash128 ∷ HttpClientAuto ∷
    HttpClientExplicitInstance ∷ HttpClientExplicitFactory ∷ SsoLoginVanityUrl ∷ AgenticCallerClaudeCode ∷
    AgenticCallerGeminiCli ∷ AgenticCallerCodex ∷ AgenticCallerKiro ∷ AgenticCallerOpenCode ∷
    AgenticCallerAntigravity ∷ AgenticCallerAmp ∷ AgenticCallerPi ∷ AgenticCallerCopilotCli ∷
    AgenticCallerCursor ∷ S3CustomPartSize ∷ S3CustomThroughput ∷ S3CustomMemoryLimit ∷ S3OnEc2 ∷ S3FilePath ∷
    DynamodbMapperV2 ∷ S3TransferClassicExplicit ∷ S3TransferCrtExplicit ∷ S3TransferClassicAuto ∷
    S3TransferCrtAuto ∷ S3RegionRedirect ∷ []

-- whether two metrics are one
abbrev pub is_metric : BusinessMetric → BusinessMetric → Bool
is_metric metric other = tag_of the_type metric == tag_of the_type other

-- the place of a metric in the order, from 0
unfoldable pub place : BusinessMetric → ℕ
place metric = position_or_len (is_metric metric) metric_order

-- the n-th sign of ids: those of base64, with `+` and `-` for the last two
unfoldable pub sign : ℕ → ℕ
sign n = slice_index (codes "ABCDEFGHIJKLMNOPQRSTUVWXYZabcdefghijklmnopqrstuvwxyz0123456789+-") n

-- the id of a place: the texts of one sign in order, then those of two
unfoldable pub id_at : ℕ → List ℕ
id_at n = if nat_lt n 64 then sign n ∷ [] else sign ((n - 64) / 64) ∷ sign ((n - 64) % 64) ∷ []

-- the id of a metric
unfoldable pub metric_id : BusinessMetric → List ℕ
metric_id metric = id_at (place metric)
