-- What a store that isn't loaded makes of serving.
use Rattle.sn_server.specs.declared.error.ServerError.{ServerError}
use Rattle.sn_server.specs.declared.error.ServerError.TheVariants as load
use Rattle.sn_serve.specs.declared.ends.Served.{Served}
use Rattle.sn_serve.specs.declared.ends.Served.TheVariants as served

abbrev pub served_of : ServerError → Served
served_of (load.Foreign place) = served.Foreign place
served_of (load.Damaged place) = served.Damaged place
served_of (load.Rows kind) = served.Rows kind
served_of load.DiskFault = served.DiskFault
served_of load.Memory = served.Memory
