-- What the program prints without a check.
use Rattle.std.specs.Prelude.{ℕ, List, [], ◌∷◌, codes}
use Rattle.std.specs.List.{flat_map}
use Rattle.smithy_core.specs.Text.{line}

-- the help of the program that checks presigned URLs: its words, where region and key come from, the lines of its input, and how it ends
unfoldable pub presigned_help : List ℕ
presigned_help = flat_map line
    (codes "presigned checks a presigned URL, as AWS Signature Version 4 signs it."
    ∷ codes ""
    ∷ codes "presigned --name NAME [--at N] [--service-id ID] [--config PATH]"
    ∷ codes "    [--credentials PATH]"
    ∷ codes "  Reads a request, and prints until when it is good, or says the first thing that"
    ∷ codes "  is wrong with it. NAME is the service's signing name. N is the moment of the"
    ∷ codes "  check, in seconds since 1970-01-01T00:00:00Z; without it that is the clock's."
    ∷ codes "    presigned --name s3 < request"
    ∷ codes ""
    ∷ codes "The region, the key's id and its secret come from profile files. Named files and"
    ∷ codes "lines of them in the input are read in place of ~/.aws/config and"
    ∷ codes "~/.aws/credentials, or where AWS_CONFIG_FILE and AWS_SHARED_CREDENTIALS_FILE say."
    ∷ codes "Of these one that is missing, can't be read, isn't UTF-8 or has over 16 MiB counts"
    ∷ codes "as empty, without a word. AWS_PROFILE and AWS_REGION come before."
    ∷ codes ""
    ∷ codes "Standard input is read to its end; at a terminal Control-D ends it. It has these"
    ∷ codes "lines:"
    ∷ codes "  method METHOD, target TARGET     once each"
    ∷ codes "  header NAME: VALUE               any number"
    ∷ codes "  body HEX                         at most once"
    ∷ codes "  config TEXT, credentials TEXT    any number, a line of a profile file each"
    ∷ codes ""
    ∷ codes "How long a URL may be good at most, and how often it may be used, isn't checked."
    ∷ codes ""
    ∷ codes "Exit status, 0 or with its line on standard error; N is a word or line, from 1:"
    ∷ codes "  2 bad word N    3 input over 67108864 bytes    4 bad line N    5 read fault"
    ∷ codes "  6 could not read file PATH    7 refused CODE NAME"
    ∷ codes "  8 check failed NAME    9 output fault    10 no memory"
    ∷ [])

-- the name and the version of the program that checks presigned URLs
unfoldable pub presigned_version : List ℕ
presigned_version = line (codes "presigned 0.1.0")
