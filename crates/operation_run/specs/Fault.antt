-- What the faults of an operation's steps become, and what is printed.
use Rattle.std.specs.Prelude.{◌≡◌, ℕ, List, codes}
use Rattle.aws_auth.specs.Error.{IsSameAuthError, auth_error_text}
use Rattle.aws_auth.specs.declared.error.SigV4SigningError.{SigV4SigningError}
use Rattle.aws_auth.specs.declared.error.SigV4SigningError.TheVariants as signing
use Rattle.aws_intercept.specs.IdFault.{id_fault_text}
use Rattle.aws_intercept.specs.Interceptor.{user_agent_fault_text}
use Rattle.aws_intercept.specs.declared.id_fault.IdFault.{IdFault}
use Rattle.aws_intercept.specs.declared.id_fault.IdFault.TheVariants as ids
use Rattle.aws_intercept.specs.declared.user_agent.interceptor.UserAgentFault.{UserAgentFault}
use Rattle.aws_intercept.specs.declared.user_agent.interceptor.UserAgentFault.TheVariants as agents
use Rattle.operation_run.specs.declared.fault.OperationFault.{OperationFault}
use Rattle.operation_run.specs.declared.fault.OperationFault.TheVariants.{Id, Agent, Sign, TransportFault, NoMemory}
use Rattle.operation_run.specs.declared.transport.SendFault.{SendFault}
use Rattle.operation_run.specs.declared.transport.SendFault.TheVariants as sending

-- the fault of an operation that gets no id: `NoMemory` stays what it is
abbrev pub no_id : IdFault → OperationFault
no_id ids.NoMemory = NoMemory
no_id fault = Id fault

-- the fault of an operation whose user agent isn't sent, likewise
abbrev pub no_agent : UserAgentFault → OperationFault
no_agent agents.NoMemory = NoMemory
no_agent fault = Agent fault

-- the fault of an operation whose request isn't signed, likewise
abbrev pub not_signed : SigV4SigningError → OperationFault
not_signed signing.NoMemory = NoMemory
not_signed error = Sign error

-- the fault of an operation whose request isn't sent
abbrev pub not_sent : SendFault → OperationFault
not_sent sending.Failed = TransportFault
not_sent sending.NoMemory = NoMemory

-- the faults of an operation are the same, and so are the texts of an encoding that failed
abbrev pub IsSameOperationFault : OperationFault → OperationFault → Type 0
IsSameOperationFault (Sign error) (Sign copy) = IsSameAuthError error copy
IsSameOperationFault fault copy = copy ≡ fault

-- what the fault of an operation prints
abbrev pub operation_fault_text : OperationFault → List ℕ
operation_fault_text (Id fault) = id_fault_text fault
operation_fault_text (Agent fault) = user_agent_fault_text fault
operation_fault_text (Sign error) = auth_error_text error
operation_fault_text TransportFault = codes "transport fault"
operation_fault_text NoMemory = codes "no memory"
