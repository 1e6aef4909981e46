-- The method and the path of each route.
use Rattle.std.specs.Prelude.{codes}
use Rattle.sn_sync.specs.Members.{Bytes}
use Rattle.sn_sync.specs.declared.request.Route.{Route}
use Rattle.sn_sync.specs.declared.request.Route.TheVariants as route

abbrev pub method_of : Route → Bytes
method_of route.Register = codes "POST"
method_of route.Params = codes "GET"
method_of route.SignIn = codes "POST"
method_of route.ChangePw = codes "POST"
method_of route.Sync = codes "POST"

abbrev pub path_to : Route → Bytes
path_to route.Register = codes "/auth"
path_to route.Params = codes "/auth/params"
path_to route.SignIn = codes "/auth/sign_in"
path_to route.ChangePw = codes "/auth/change_pw"
path_to route.Sync = codes "/items/sync"
