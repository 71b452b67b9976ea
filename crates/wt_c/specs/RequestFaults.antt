-- The errors of a request, by number and by name.
use Rattle.std.specs.Prelude.{◌≡◌, ◌≢◌, ℕ, ℤ, List, codes, Option, Some, None}
use Rattle.wtp_fields.specs.declared.session.HeadersParseError.{HeadersParseError}
use Rattle.wtp_fields.specs.declared.session.HeadersParseError.TheVariants as is
use Rattle.wt_c.specs.declared.request_faults.TheConstants.{REQUEST_OK, MISSING_METHOD}
use Rattle.wt_c.specs.declared.request_faults.TheConstants.{METHOD_NOT_CONNECT, MISSING_SCHEME}
use Rattle.wt_c.specs.declared.request_faults.TheConstants.{SCHEME_NOT_HTTPS, MISSING_PROTOCOL}
use Rattle.wt_c.specs.declared.request_faults.TheConstants.{PROTOCOL_NOT_WEBTRANSPORT}
use Rattle.wt_c.specs.declared.request_faults.TheConstants.{MISSING_AUTHORITY, MISSING_PATH}

-- the C number of an error of a request; REQUEST_OK for other errors
abbrev pub fault_number : HeadersParseError → ℤ
fault_number is.MissingMethod = MISSING_METHOD
fault_number is.MethodNotConnect = METHOD_NOT_CONNECT
fault_number is.MissingScheme = MISSING_SCHEME
fault_number is.SchemeNotHttps = SCHEME_NOT_HTTPS
fault_number is.MissingProtocol = MISSING_PROTOCOL
fault_number is.ProtocolNotWebTransport = PROTOCOL_NOT_WEBTRANSPORT
fault_number is.MissingAuthority = MISSING_AUTHORITY
fault_number is.MissingPath = MISSING_PATH
fault_number is.MissingStatusCode = REQUEST_OK
fault_number is.InvalidStatusCode = REQUEST_OK
fault_number is.Memory = REQUEST_OK

-- the error is one of a request, so it has a number of its own
abbrev pub IsRequestFault : HeadersParseError → Type 0
IsRequestFault fault = fault_number fault ≢ REQUEST_OK

-- the C number of the first error, or REQUEST_OK if there is none
abbrev pub first_number : Option HeadersParseError → ℤ
first_number None = REQUEST_OK
first_number (Some fault) = fault_number fault

-- this is the C number of this error of a request
pub record IsFaultNumber (n : ℤ) (fault : HeadersParseError) : Type 0 where
  pub same : n ≡ fault_number fault
  pub some : n ≢ REQUEST_OK

-- the name of an error
abbrev pub fault_name : HeadersParseError → List ℕ
fault_name is.MissingMethod = codes "MissingMethod"
fault_name is.MethodNotConnect = codes "MethodNotConnect"
fault_name is.MissingScheme = codes "MissingScheme"
fault_name is.SchemeNotHttps = codes "SchemeNotHttps"
fault_name is.MissingProtocol = codes "MissingProtocol"
fault_name is.ProtocolNotWebTransport = codes "ProtocolNotWebTransport"
fault_name is.MissingAuthority = codes "MissingAuthority"
fault_name is.MissingPath = codes "MissingPath"
fault_name is.MissingStatusCode = codes "MissingStatusCode"
fault_name is.InvalidStatusCode = codes "InvalidStatusCode"
fault_name is.Memory = codes "Memory"
