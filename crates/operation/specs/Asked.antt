-- What the program answers without a run.
use Rattle.std.specs.Prelude.{ℕ, List, [], ◌∷◌, codes}
use Rattle.std.specs.List.{flat_map}
use Rattle.smithy_core.specs.Text.{line}

-- the help: the words with an example, the lines of a job, and how a run ends
unfoldable pub operation_help : List ℕ
operation_help = flat_map line
    (codes "operation shows what an operation sends, attempt by attempt, over listed replies."
    ∷ codes ""
    ∷ codes "operation --name NAME --at N [PROFILE]"
    ∷ codes "  Signs a job's request anew for each attempt, and writes the requests that are"
    ∷ codes "  sent and how many attempts were made. NAME is the service's signing name. N is"
    ∷ codes "  the moment of all signatures, in seconds since 1970-01-01T00:00:00Z."
    ∷ codes "    operation --name service --at 1440938160 < job"
    ∷ codes ""
    ∷ codes "PROFILE is [--service-id ID] [--config PATH] [--credentials PATH]. Named files and"
    ∷ codes "lines of them in the input are read in place of ~/.aws/config and"
    ∷ codes "~/.aws/credentials, or where AWS_CONFIG_FILE and AWS_SHARED_CREDENTIALS_FILE say."
    ∷ codes "Of these one that is missing, can't be read, isn't UTF-8 or has over 16 MiB counts"
    ∷ codes "as empty, without a word. AWS_PROFILE and AWS_REGION come before."
    ∷ codes ""
    ∷ codes "Standard input is read to its end; at a terminal Control-D ends it. A job has"
    ∷ codes "these lines:"
    ∷ codes "  method METHOD, target TARGET     once each"
    ∷ codes "  header NAME: VALUE               any number"
    ∷ codes "  body HEX                         at most once"
    ∷ codes "  config TEXT, credentials TEXT    any number, a line of a profile file each"
    ∷ codes "  reply STATUS CODE [DATE]         one or more, behind the others: what the"
    ∷ codes "                                   service answers; - is no error's code"
    ∷ codes ""
    ∷ codes "Exit status, 0 or with its line on standard error; N is a word or line, from 1:"
    ∷ codes "  2 bad word N    3 input over 67108864 bytes    4 bad line N    5 read fault"
    ∷ codes "  6 could not read file PATH    7 refused CODE NAME    9 output fault"
    ∷ codes "  10 no memory    12 transport fault"
    ∷ [])

-- the name and the version of the program
unfoldable pub operation_version : List ℕ
operation_version = line (codes "operation 0.1.0")
