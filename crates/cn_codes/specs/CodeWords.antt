-- The words after which, and before which, a number is a code.
use Rattle.std.specs.Prelude.{ℕ, ◌==◌, Bool, false, not, ◌&&◌, ◌||◌, List, [], ◌∷◌, length, drop, codes, if◌then◌else◌}
use Rattle.std.specs.Char.{char_set_contains}
use Rattle.cn_find.specs.Belongs.{begins_with}
use Rattle.cn_codes.specs.Digits.{begins_any_number}
use Rattle.cn_codes.specs.Words.{begins_any, ends_any, without_any}

-- words after which a number is a code
abbrev pub words_of_codes : List (List ℕ)
words_of_codes =
    codes "电话" ∷ codes "電話" ∷ codes "手机" ∷ codes "手機" ∷ codes "座机" ∷ codes "座機" ∷ codes "号码"
    ∷ codes "號碼" ∷ codes "热线" ∷ codes "熱線" ∷ codes "专线" ∷ codes "專線" ∷ codes "客服" ∷ codes "传真"
    ∷ codes "傳真" ∷ codes "拨打" ∷ codes "撥打" ∷ codes "请拨" ∷ codes "請撥" ∷ codes "致电" ∷ codes "致電"
    ∷ codes "分机" ∷ codes "分機" ∷ codes "转" ∷ codes "轉" ∷ codes "区号" ∷ codes "區號" ∷ codes "验证码"
    ∷ codes "驗證碼" ∷ codes "校验码" ∷ codes "校驗碼" ∷ codes "提取码" ∷ codes "提取碼" ∷ codes "取件码"
    ∷ codes "取件碼" ∷ codes "取餐码" ∷ codes "取餐碼" ∷ codes "邀请码" ∷ codes "邀請碼" ∷ codes "动态码"
    ∷ codes "動態碼" ∷ codes "识别码" ∷ codes "識別碼" ∷ codes "邮政编码" ∷ codes "郵政編碼" ∷ codes "密码"
    ∷ codes "密碼" ∷ codes "代码" ∷ codes "代碼" ∷ codes "邮编" ∷ codes "郵編" ∷ codes "编号" ∷ codes "編號"
    ∷ codes "单号" ∷ codes "單號" ∷ codes "订单" ∷ codes "訂單" ∷ codes "卡号" ∷ codes "卡號" ∷ codes "账号"
    ∷ codes "賬號" ∷ codes "帐号" ∷ codes "帳號" ∷ codes "尾号" ∷ codes "尾號" ∷ codes "学号" ∷ codes "學號"
    ∷ codes "工号" ∷ codes "工號" ∷ codes "票号" ∷ codes "票號" ∷ codes "证号" ∷ codes "證號" ∷ codes "批号"
    ∷ codes "批號" ∷ codes "房号" ∷ codes "房號" ∷ codes "房间号" ∷ codes "房間號" ∷ codes "机号" ∷ codes "機號"
    ∷ codes "序列号" ∷ codes "序列號" ∷ codes "流水号" ∷ codes "流水號" ∷ codes "端口" ∷ codes "端口号"
    ∷ codes "端口號" ∷ codes "后四位" ∷ codes "後四位" ∷ codes "末四位" ∷ codes "版本号" ∷ codes "版本號"
    ∷ codes "车次" ∷ codes "車次" ∷ codes "群号" ∷ codes "群號" ∷ codes "QQ" ∷ codes "QQ号" ∷ codes "QQ號" ∷ []

-- words that may be between such a word and its code
abbrev pub links : List (List ℕ)
links =
    codes "设置为" ∷ codes "設置為" ∷ codes "设为" ∷ codes "設為" ∷ codes "改为" ∷ codes "改為" ∷ codes "为" ∷ codes "為" ∷ codes "是" ∷ []

unfoldable pub ends_word_of_codes : List ℕ → Bool
ends_word_of_codes front = ends_any words_of_codes front

unfoldable pub without_link : List ℕ → List ℕ
without_link front = without_any links front

-- without one sign at the end
abbrev pub without_sign : List ℕ → List ℕ
without_sign front = if begins_with (codes "：:；; ") front then drop 1 front else front

-- a word of codes is before a place, perhaps with a link and a sign after it. The nearest character
-- is the first
unfoldable pub follows_word : List ℕ → Bool
follows_word front = ends_word_of_codes (without_link (without_sign front))

abbrev pub services : List (List ℕ)
services =
    codes "10010" ∷ codes "10086" ∷ codes "12123" ∷ codes "12306" ∷ codes "12315" ∷ codes "12333"
    ∷ codes "12345" ∷ codes "12348" ∷ codes "12366" ∷ codes "12388" ∷ codes "95588" ∷ []

unfoldable pub begins_service : List ℕ → Bool
begins_service run = begins_any_number services run

-- the run is the number of a service
unfoldable pub is_service : List ℕ → Bool
is_service run = length run == 5 && begins_service run

-- the numbers to call for help
abbrev pub emergencies : List (List ℕ)
emergencies =
    codes "110" ∷ codes "112" ∷ codes "114" ∷ codes "119" ∷ codes "120" ∷ codes "122" ∷ []

unfoldable pub begins_emergency : List ℕ → Bool
begins_emergency run = begins_any_number emergencies run

unfoldable pub ends_emergency : List ℕ → Bool
ends_emergency front = ends_any emergencies front

unfoldable pub before_emergency : List ℕ → List ℕ
before_emergency front = without_any emergencies front

-- 打, 拨 or 叫 is before a place
unfoldable pub follows_call : List ℕ → Bool
follows_call front = begins_with (codes "打拨撥叫") front

-- another such number and 或 are before a place
abbrev pub follows_another : List ℕ → Bool
follows_another front =
    begins_with (codes "或和、") front
    && (ends_emergency (drop 1 front) && follows_call (before_emergency (drop 1 front)))

-- a number to call for help, after 打, or after 打, another one and 或
unfoldable pub is_called : List ℕ → List ℕ → Bool
is_called front run =
    (length run == 3 && begins_emergency run) && (follows_call front || follows_another front)

abbrev pub rooms : List (List ℕ)
rooms =
    codes "室" ∷ codes "房" ∷ codes "号房" ∷ codes "號房" ∷ codes "教室" ∷ codes "病房" ∷ codes "包厢" ∷ codes "包廂"
    ∷ codes "包间" ∷ codes "包間" ∷ codes "会议室" ∷ codes "會議室" ∷ codes "国道" ∷ codes "國道" ∷ codes "省道"
    ∷ codes "县道" ∷ codes "縣道" ∷ codes "航班" ∷ []

-- a number of three or four figures before these words is a room, a road or a flight
unfoldable pub begins_room : List ℕ → Bool
begins_room rest = begins_any rooms rest

abbrev pub building_units : List (List ℕ)
building_units = codes "单元" ∷ codes "單元" ∷ codes "住在" ∷ []

unfoldable pub ends_building_unit : List ℕ → Bool
ends_building_unit front = ends_any building_units front

-- the words of a building, or 住在, are before a place
unfoldable pub follows_building : List ℕ → Bool
follows_building front = begins_with (codes "楼樓栋棟幢座") front || ends_building_unit front

-- a route: 路, but not 路程, 路上, 路口
unfoldable pub begins_route : List ℕ → Bool
begins_route [] = false
begins_route (c ∷ rest) =
    char_set_contains (codes "路") c && not (begins_with (codes "程上口") rest)

abbrev pub of_years : List (List ℕ)
of_years =
    codes "级" ∷ codes "級" ∷ codes "届" ∷ codes "屆" ∷ codes "款" ∷ codes "版" ∷ codes "财年" ∷ codes "財年"
    ∷ codes "学年" ∷ codes "學年" ∷ codes "赛季" ∷ codes "賽季" ∷ []

-- a number from 1900 to 2099 before these words is a year
unfoldable pub begins_of_year : List ℕ → Bool
begins_of_year rest = begins_any of_years rest

abbrev pub centuries : List (List ℕ)
centuries = codes "19" ∷ codes "20" ∷ []

unfoldable pub begins_century : List ℕ → Bool
begins_century run = begins_any_number centuries run

abbrev pub generations : List (List ℕ)
generations =
    codes "00" ∷ codes "05" ∷ codes "50" ∷ codes "55" ∷ codes "60" ∷ codes "65" ∷ codes "70" ∷ codes "75"
    ∷ codes "80" ∷ codes "85" ∷ codes "90" ∷ codes "95" ∷ []

unfoldable pub begins_generation : List ℕ → Bool
begins_generation run = begins_any_number generations run

-- 后, but not 后付
abbrev pub begins_after : List ℕ → Bool
begins_after rest =
    begins_with (codes "后後") rest && not (begins_with (codes "付實实再") (drop 1 rest))

-- those born in ten years, as in 90后 and 05后; but not in 满300减50后 and 80后付
unfoldable pub is_generation : List ℕ → List ℕ → List ℕ → Bool
is_generation front run rest =
    (length run == 2 && begins_generation run)
    && (begins_after rest && not (begins_with (codes "减減共满滿付加") front))

abbrev pub after_names : List (List ℕ)
after_names =
    codes "次" ∷ codes "号" ∷ codes "號" ∷ codes "航班" ∷ codes "高速" ∷ codes "快速" ∷ codes "国道" ∷ codes "國道"
    ∷ codes "出口" ∷ codes "登机" ∷ codes "登機" ∷ codes "检票口" ∷ codes "檢票口" ∷ codes "航站楼" ∷ codes "航站樓" ∷ []

-- words before which Chinese digits after capital letters are a name
unfoldable pub begins_after_name : List ℕ → Bool
begins_after_name rest = begins_any after_names rest
