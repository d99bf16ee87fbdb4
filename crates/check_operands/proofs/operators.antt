pub mod RowsOutlined
