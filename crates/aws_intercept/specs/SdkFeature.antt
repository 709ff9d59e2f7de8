-- The features of the SDK, each for the metric of its name.
use Rattle.aws_intercept.specs.declared.user_agent.metric.BusinessMetric.{BusinessMetric}
use Rattle.aws_intercept.specs.declared.user_agent.metric.BusinessMetric.TheVariants as metric
use Rattle.aws_intercept.specs.declared.user_agent.sdk_feature.SmithySdkFeature.{SmithySdkFeature}
use Rattle.aws_intercept.specs.declared.user_agent.sdk_feature.AwsSdkFeature.{AwsSdkFeature}
use Rattle.aws_intercept.specs.declared.user_agent.sdk_feature.AwsCredentialFeature.{AwsCredentialFeature}
use Rattle.aws_intercept.specs.declared.user_agent.sdk_feature.SmithySdkFeature.TheVariants.{
  Waiter,
  Paginator,
  GzipRequestCompression,
  ProtocolRpcV2Cbor,
  RetryModeStandard,
  RetryModeAdaptive,
  FlexibleChecksumsReqCrc32,
  FlexibleChecksumsReqCrc32c,
  FlexibleChecksumsReqCrc64,
  FlexibleChecksumsReqSha1,
  FlexibleChecksumsReqSha256,
  FlexibleChecksumsReqWhenSupported,
  FlexibleChecksumsReqWhenRequired,
  FlexibleChecksumsResWhenSupported,
  FlexibleChecksumsResWhenRequired,
  ObservabilityOtelMetrics,
}
use Rattle.aws_intercept.specs.declared.user_agent.sdk_feature.AwsSdkFeature.TheVariants.{
  AccountIdModePreferred,
  AccountIdModeDisabled,
  AccountIdModeRequired,
  S3Transfer,
  SsoLoginDevice,
  SsoLoginAuth,
  EndpointOverride,
  S3TransferUploadDirectory,
  S3TransferDownloadDirectory,
  S3CustomPartSize,
  S3CustomThroughput,
  S3CustomMemoryLimit,
  S3OnEc2,
  S3FilePath,
}
use Rattle.aws_intercept.specs.declared.user_agent.sdk_feature.AwsCredentialFeature.TheVariants.{
  CredentialsCode,
  CredentialsEnvVars,
  CredentialsEnvVarsStsWebIdToken,
  CredentialsStsAssumeRole,
  CredentialsStsAssumeRoleSaml,
  CredentialsStsAssumeRoleWebId,
  CredentialsStsFederationToken,
  CredentialsStsSessionToken,
  CredentialsProfile,
  CredentialsProfileSourceProfile,
  CredentialsProfileNamedProvider,
  CredentialsProfileStsWebIdToken,
  CredentialsProfileSso,
  CredentialsSso,
  CredentialsProfileProcess,
  CredentialsProcess,
  CredentialsHttp,
  CredentialsImds,
  ResolvedAccountId,
  BearerServiceEnvVars,
  S3ExpressBucket,
  CredentialsProfileLogin,
  CredentialsLogin,
}

-- the metric of a feature that every client has
abbrev pub smithy_metric : SmithySdkFeature → BusinessMetric
smithy_metric Waiter = metric.Waiter
smithy_metric Paginator = metric.Paginator
smithy_metric GzipRequestCompression = metric.GzipRequestCompression
smithy_metric ProtocolRpcV2Cbor = metric.ProtocolRpcV2Cbor
smithy_metric RetryModeStandard = metric.RetryModeStandard
smithy_metric RetryModeAdaptive = metric.RetryModeAdaptive
smithy_metric FlexibleChecksumsReqCrc32 = metric.FlexibleChecksumsReqCrc32
smithy_metric FlexibleChecksumsReqCrc32c = metric.FlexibleChecksumsReqCrc32c
smithy_metric FlexibleChecksumsReqCrc64 = metric.FlexibleChecksumsReqCrc64
smithy_metric FlexibleChecksumsReqSha1 = metric.FlexibleChecksumsReqSha1
smithy_metric FlexibleChecksumsReqSha256 = metric.FlexibleChecksumsReqSha256
smithy_metric FlexibleChecksumsReqWhenSupported = metric.FlexibleChecksumsReqWhenSupported
smithy_metric FlexibleChecksumsReqWhenRequired = metric.FlexibleChecksumsReqWhenRequired
smithy_metric FlexibleChecksumsResWhenSupported = metric.FlexibleChecksumsResWhenSupported
smithy_metric FlexibleChecksumsResWhenRequired = metric.FlexibleChecksumsResWhenRequired
smithy_metric ObservabilityOtelMetrics = metric.ObservabilityOtelMetrics

-- the metric of a feature for the services of AWS
abbrev pub aws_metric : AwsSdkFeature → BusinessMetric
aws_metric AccountIdModePreferred = metric.AccountIdModePreferred
aws_metric AccountIdModeDisabled = metric.AccountIdModeDisabled
aws_metric AccountIdModeRequired = metric.AccountIdModeRequired
aws_metric S3Transfer = metric.S3Transfer
aws_metric SsoLoginDevice = metric.SsoLoginDevice
aws_metric SsoLoginAuth = metric.SsoLoginAuth
aws_metric EndpointOverride = metric.EndpointOverride
aws_metric S3TransferUploadDirectory = metric.S3TransferUploadDirectory
aws_metric S3TransferDownloadDirectory = metric.S3TransferDownloadDirectory
aws_metric S3CustomPartSize = metric.S3CustomPartSize
aws_metric S3CustomThroughput = metric.S3CustomThroughput
aws_metric S3CustomMemoryLimit = metric.S3CustomMemoryLimit
aws_metric S3OnEc2 = metric.S3OnEc2
aws_metric S3FilePath = metric.S3FilePath

-- the metric of a feature of credentials
abbrev pub credential_metric : AwsCredentialFeature → BusinessMetric
credential_metric CredentialsCode = metric.CredentialsCode
credential_metric CredentialsEnvVars = metric.CredentialsEnvVars
credential_metric CredentialsEnvVarsStsWebIdToken = metric.CredentialsEnvVarsStsWebIdToken
credential_metric CredentialsStsAssumeRole = metric.CredentialsStsAssumeRole
credential_metric CredentialsStsAssumeRoleSaml = metric.CredentialsStsAssumeRoleSaml
credential_metric CredentialsStsAssumeRoleWebId = metric.CredentialsStsAssumeRoleWebId
credential_metric CredentialsStsFederationToken = metric.CredentialsStsFederationToken
credential_metric CredentialsStsSessionToken = metric.CredentialsStsSessionToken
credential_metric CredentialsProfile = metric.CredentialsProfile
credential_metric CredentialsProfileSourceProfile = metric.CredentialsProfileSourceProfile
credential_metric CredentialsProfileNamedProvider = metric.CredentialsProfileNamedProvider
credential_metric CredentialsProfileStsWebIdToken = metric.CredentialsProfileStsWebIdToken
credential_metric CredentialsProfileSso = metric.CredentialsProfileSso
credential_metric CredentialsSso = metric.CredentialsSso
credential_metric CredentialsProfileProcess = metric.CredentialsProfileProcess
credential_metric CredentialsProcess = metric.CredentialsProcess
credential_metric CredentialsHttp = metric.CredentialsHttp
credential_metric CredentialsImds = metric.CredentialsImds
credential_metric ResolvedAccountId = metric.ResolvedAccountId
credential_metric BearerServiceEnvVars = metric.BearerServiceEnvVars
credential_metric S3ExpressBucket = metric.S3ExpressBucket
credential_metric CredentialsProfileLogin = metric.CredentialsProfileLogin
credential_metric CredentialsLogin = metric.CredentialsLogin
