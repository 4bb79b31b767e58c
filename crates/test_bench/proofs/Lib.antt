mod Handle
